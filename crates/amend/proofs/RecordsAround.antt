-- The records of a flow around disposition k. Assumes nothing.
use Prim.Native.Nat.{ℕ, suc, ◌-◌, ◌/◌}
use mathlib.Core.List.{List, [], ◌∷◌, ◌++◌, append_assoc, flatten}
use mathlib.Core.Path.{◌≡◌, sym, ◌∙◌, ap, subst}
use native.Mathlib.Omega.{arith}
use lib.ListN.{length, take, drop, get_or}
use lib.Seq.{split_at}
use Rattle.sequences.proofs.All.{all-before, all_after}
use Rattle.sequences.proofs.DropLast.{drop_last_last}
use Rattle.sequences.proofs.Flatten.{flatten-append}
use Rattle.sequences.proofs.Groups.{lead-groups}
use Rattle.records.specs.Kinds.{is_opening}
use Rattle.flow.specs.Find.{dispositions_in}
use Rattle.flow.specs.Records.{record_at, records_of}
use Rattle.flow.specs.declared.location.WithTotals.{WithTotals}
use Rattle.flow.proofs.Cut.{Whole, cut-count, cut_at, cut-whole}
use Rattle.flow.proofs.Dispositions.{until_trailer, header-leads}
use Rattle.amend.proofs.FoundFacts.{FoundFacts}

-- the records of the flow: those before the disposition, its own, those after it, and the trailer
module _ {f : List ℕ} {k : ℕ} {v : WithTotals} (s : FoundFacts f k v) where
  abbrev pub before : List (List ℕ)
  before = record_at 0 f ∷ flatten (take (k - 1) (dispositions_in f))

  abbrev pub own : List (List ℕ)
  own = get_or (dispositions_in f) (k - 1) []

  abbrev pub after : List (List ℕ)
  after = flatten (drop k (dispositions_in f))

  abbrev pub trailer : List ℕ
  trailer = record_at (v.totals.records - 1) f

  pub records_split : records_of f ≡ before ++ (own ++ (after ++ (trailer ∷ [])))
  unfolding flatten
  records_split =
      let ds = dispositions_in f in
      let size = s.size in
      let some = s.some in
      let count : length (records_of f) ≡ v.totals.records = cut-count (length f / 120) f ∙ omega arith in
      let last : get_or (records_of f) (length (records_of f) - 1) [] ≡ trailer = ap (λ (i : ℕ). get_or (records_of f) (i - 1) []) count ∙ cut_at (length f / 120) (v.totals.records - 1) f (omega (arith, s.starts, s.ends)) in
      let front : until_trailer f ≡ record_at 0 f ∷ flatten ds = sym (lead-groups is_opening (until_trailer f)) ∙ ap (λ (l : List (List ℕ)). l ++ flatten ds) (header-leads f s.read) in
      let one : suc (k - 1) ≡ k = omega arith in
      let around : ds ≡ take (k - 1) ds ++ (own ∷ drop k ds) = split_at ds (k - 1) [] (omega (arith, s.count, s.within)) ∙ ap (λ (i : ℕ). take (k - 1) ds ++ (own ∷ drop i ds)) one in
      let joined : flatten ds ≡ flatten (take (k - 1) ds) ++ (own ++ after) = ap flatten around ∙ flatten-append (take (k - 1) ds) (own ∷ drop k ds) in
      sym (drop_last_last (records_of f) [] (omega (arith, s.starts, s.ends))) ∙ (λ i. front i ++ (last i ∷ [])) ∙ ap (λ (l : List (List ℕ)). (record_at 0 f ∷ l) ++ (trailer ∷ [])) joined ∙ simp append_assoc

  -- each of 120 bytes
  pub pieces : Whole before × Whole own × Whole after × (length trailer ≡ 120)
  pieces =
      let sized : List ℕ → Type 0 = λ rec. length rec ≡ 120 in
      let last = trailer ∷ [] in
      let all = subst Whole records_split (cut-whole (length f / 120) f (omega arith)) in
      let from-own = all_after sized before (own ++ (after ++ last)) all in
      let from-after = all_after sized own (after ++ last) from-own in
      (all-before sized before (own ++ (after ++ last)) all, all-before sized own (after ++ last) from-own, all-before sized after last from-after, (all_after sized after last from-after).0)
