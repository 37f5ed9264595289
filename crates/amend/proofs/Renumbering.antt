-- A loop that numbers records anew: after each record, those that are left make the same of the flow as all of them did at first.
-- Assumes nothing.
use Prim.Native.Nat.{ℕ, suc, ◌+◌, ◌-◌, ◌*◌, ◌≤◌, ◌<◌}
use mathlib.Core.Bool.{Bool, true, false, cond}
use mathlib.Core.List.{List, [], ◌∷◌, ◌++◌, flatten}
use mathlib.Core.Path.{◌≡◌, refl, sym, ◌∙◌, ap, subst}
use native.Mathlib.Numerals.{add-one}
use native.Mathlib.Omega.{arith}
use lib.ListN.{length, drop, length-drop}
use borrow.Rule.Slice.PartMut.{put_mid}
use Rattle.sequences.specs.Part.{put}
use Rattle.sequences.proofs.Part.{part_length, put-length, put-append, put-nothing, put-within, drop-put, lent_is_put}
use Rattle.fields.specs.Digits.{digits}
use Rattle.fields.proofs.Decimal.{written-length}
use Rattle.records.specs.Kinds.{is_opening}
use Rattle.flow.specs.Records.{cut, record_at}
use Rattle.flow.proofs.Cut.{Whole, cut-count, cut-whole, cut_next, cut_end, flatten-length}
use Rattle.amend.specs.Withdraw.{renumbered, renumbered_from}
use Rattle.amend.proofs.RulesKept.{over_length}

-- records numbered anew keep their length, and stay as many
renumbered-whole : (j : ℕ) (recs : List (List ℕ)) → Whole recs → Whole (renumbered_from j recs)
unfolding renumbered_from
renumbered-whole j [] whole = tt
renumbered-whole j (rec ∷ recs) whole =
    let i = j + cond (is_opening rec) 1 0 in
    (over_length 3 7 i rec whole.0 (omega arith), renumbered-whole i recs whole.1)

renumbered-count : (j : ℕ) (recs : List (List ℕ)) → length (renumbered_from j recs) ≡ length recs
unfolding renumbered_from
renumbered-count j [] = refl
renumbered-count j (rec ∷ recs) = ap suc (renumbered-count (j + cond (is_opening rec) 1 0) recs)

pub renumbered-bytes : (j : ℕ) (recs : List (List ℕ)) → Whole recs → length (flatten (renumbered_from j recs)) ≡ 120 * length recs
renumbered-bytes j recs whole = flatten-length (renumbered_from j recs) (renumbered-whole j recs whole) ∙ ap (λ (n : ℕ). 120 * n) (renumbered-count j recs)

-- the records from index i up to index `to`, numbered after disposition j
abbrev anew : List ℕ → ℕ → ℕ → ℕ → List ℕ
anew f i to j = flatten (renumbered_from j (cut (to - i) (drop (120 * i) f)))

anew_length : (f : List ℕ) (i to j : ℕ) → i ≤ to → 120 * to ≤ length f → length (anew f i to j) ≡ 120 * (to - i)
anew_length f i to j ends within =
    let recs = cut (to - i) (drop (120 * i) f) in
    let whole : Whole recs = cut-whole (to - i) (drop (120 * i) f) (rw length-drop (omega arith)) in
    renumbered-bytes j recs whole ∙ ap (λ (n : ℕ). 120 * n) (cut-count (to - i) (drop (120 * i) f))

-- the number of the record at index i
abbrev pub number_at : List ℕ → ℕ → ℕ → ℕ
number_at f i j = j + cond (is_opening (record_at i f)) 1 0

-- the loop at index i, of the records from `from` up to `to`: what it has counted and shows, and the bytes so far
pub record Renumbering (f₀ : List ℕ) (from to before : ℕ) (f : List ℕ) (number : ℕ) (shown : List ℕ) (i : ℕ) : Type 0 where
  pub few : number ≤ before + (i - from)
  pub says : shown ≡ digits 7 number
  pub same : length f ≡ length f₀
  pub left : put (120 * i) (anew f i to number) f ≡ put (120 * from) (anew f₀ from to before) f₀

module _ {f₀ : List ℕ} {from to before : ℕ} {f : List ℕ} {number : ℕ} {shown : List ℕ} {i : ℕ} (r : Renumbering f₀ from to before f number shown i) where
  module _ (begun : from ≤ i) (more : i < to) (within : 120 * to ≤ length f₀) where
    -- one more record gets its number
    numbered-next : let j = number_at f i number in Renumbering f₀ from to before (put (120 * i + 3) (digits 7 j) f) j (digits 7 j) (suc i)
    unfolding renumbered_from flatten
    numbered-next =
        let j = number_at f i number in
        let same = r.same in
        let size = written-length 7 j in
        let next : List ℕ = put (120 * i + 3) (digits 7 j) f in
        let rec = renumbered j (record_at i f) in
        let rest = anew f (suc i) to j in
        let rec-size : length rec ≡ 120 = over_length 3 7 j (record_at i f) (part_length (120 * i) 120 f (omega arith)) (omega arith) in
        let on : 120 * suc i ≡ 120 * i + length rec = omega arith in
        let rest-size = anew_length f (suc i) to j more (omega arith) in
        let kept : length next ≡ length f = put-length (120 * i + 3) (digits 7 j) f (omega arith) in
        let after : drop (120 * suc i) next ≡ drop (120 * suc i) f = drop-put (120 * i + 3) (digits 7 j) f (omega arith) (120 * suc i) (omega arith) in
        let whole : next ≡ put (120 * i) rec f = put-within (120 * i) 120 3 (digits 7 j) f (omega arith) (omega arith) in
        let now : put (120 * i) (anew f i to number) f ≡ put (120 * i) (rec ++ rest) f = ap (λ (l : List (List ℕ)). put (120 * i) (flatten (renumbered_from number l)) f) (cut_next to i f more) in
        record {
          few = omega (arith, r.few, one_at_most (is_opening (record_at i f)));
          says = refl;
          same = kept ∙ same;
          left = ap (λ (l : List ℕ). put (120 * suc i) (flatten (renumbered_from j (cut (to - suc i) l))) next) after ∙ (λ k. put (on k) rest (whole k)) ∙ sym (put-append (120 * i) rec rest f (omega arith)) ∙ sym now ∙ r.left;
        }
      where
        one_at_most : (b : Bool) → cond b 1 0 ≤ 1
        one_at_most true = omega arith
        one_at_most false = omega arith

    -- as the code writes it: over the seven bytes that it lends
    pub renumbered_next :
        (j : ℕ) (digits-of back : List ℕ) → j ≡ number_at f i number → digits-of ≡ digits 7 j → back ≡ digits-of
        → Renumbering f₀ from to before (put_mid (120 * i + 3) (120 * i + 10 - (120 * i + 3)) f back) j digits-of (i + 1)
    renumbered_next j digits-of back counted says came =
        let shown : digits-of ≡ digits 7 (number_at f i number) = says ∙ ap (digits 7) counted in
        let size : length back ≡ 120 * i + 10 - (120 * i + 3) = ap length (came ∙ says) ∙ written-length 7 j ∙ omega arith in
        let written = lent_is_put (120 * i + 3) (120 * i + 10) f back size ∙ ap (λ (l : List ℕ). put (120 * i + 3) l f) (came ∙ shown) in
        subst (λ (A : Type 0). A) (λ k. Renumbering f₀ from to before (sym written k) (sym counted k) (sym shown k) (sym (add-one i) k)) numbered-next

  pub renumbered-all : to ≤ i → f ≡ put (120 * from) (anew f₀ from to before) f₀
  unfolding renumbered_from flatten
  renumbered-all done =
      sym (put-nothing (120 * i) f) ∙ ap (λ (l : List (List ℕ)). put (120 * i) (flatten (renumbered_from number l)) f) (sym (cut_end to i (drop (120 * i) f) done)) ∙ r.left
