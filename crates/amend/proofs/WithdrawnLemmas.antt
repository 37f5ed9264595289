-- The bytes that a withdrawal leaves: what its steps write is the flow without the disposition. Assumes nothing.
use Prim.Native.Nat.{ℕ, suc, ◌+◌, ◌-◌, ◌*◌, ◌≤◌}
use mathlib.Core.Bool.{false, cond}
use mathlib.Core.List.{List, [], ◌∷◌, ◌++◌, append_assoc, append-nil, map, flatten}
use mathlib.Core.Path.{◌≡◌, refl, sym, ◌∙◌, ap, subst}
use native.Mathlib.Nat.{add-zero}
use native.Mathlib.Numerals.{add-one}
use native.Mathlib.Omega.{arith}
use borrow.Rule.Slice.PartMut.{put_mid}
use lib.ListN.{length, take, drop, replicate, length-append, length-drop, drop_of_length-le, take-append-drop}
use Rattle.std.proofs.lemmas.List.{length-replicate, take_rest}
use Rattle.std.specs.List.{copy_within}
use lib.Seq.{take_at, drop_at}
use Rattle.sequences.specs.All.{All}
use Rattle.sequences.specs.Part.{put}
use Rattle.sequences.proofs.All.{all_after}
use Rattle.sequences.proofs.Flatten.{flatten-append}
use Rattle.sequences.proofs.Groups.{Opens, groups_open}
use Rattle.sequences.proofs.Part.{put_at, drop-two, lent_is_put}
use Rattle.records.specs.Kinds.{is_opening}
use Rattle.flow.specs.Find.{dispositions_in}
use Rattle.flow.specs.Records.{cut, record_at}
use Rattle.flow.specs.declared.answer.Totals.{Totals}
use Rattle.flow.specs.declared.location.WithTotals.{WithTotals}
use Rattle.flow.proofs.Cut.{cut_front, flatten-length, records_joined}
use Rattle.flow.proofs.Dispositions.{until_trailer}
use Rattle.amend.specs.Withdraw.{renumbered, numbered_from, renumbered_from, without, totals_left, recounted, counted_at, records_left, withdrawn}
use Rattle.amend.proofs.RecordsAround.{before, own, after, trailer, records_split, pieces}
use Rattle.amend.proofs.RulesKept.{recounted-length}
use Rattle.amend.proofs.Renumbering.{renumbered-bytes}
use Rattle.amend.proofs.FoundFacts.{FoundFacts}

-- records that open no disposition get the number of the one before them
others_numbered : (j : ℕ) (recs rest : List (List ℕ)) → All (λ (rec : List ℕ). is_opening rec ≡ false) recs → renumbered_from j (recs ++ rest) ≡ map (renumbered j) recs ++ renumbered_from j rest
unfolding renumbered_from
others_numbered j [] rest none = refl
others_numbered j (rec ∷ recs) rest none =
    rw (none.0, add-zero j) (ap (λ (l : List (List ℕ)). renumbered j rec ∷ l) (others_numbered j recs rest none.1))

-- a tail that is filled with blanks
filled : (n : ℕ) (f blanks : List ℕ) → n ≤ length f → blanks ≡ replicate (length f - n) 32 → put_mid n (length f - n) f blanks ≡ take n f ++ replicate (length f - n) 32
filled n f blanks within came =
    let all = replicate (length f - n) 32 in
    let size : length all ≡ length f - n = length-replicate (length f - n) 32 in
    ap (put_mid n (length f - n) f) came ∙ lent_is_put n (length f) f all size ∙ ap (λ (l : List ℕ). take n f ++ (all ++ l)) (drop_of_length-le f (omega arith)) ∙ ap (λ (l : List ℕ). take n f ++ l) (append-nil all)

-- record by record or disposition by disposition, the numbers are the same
dispositions_numbered : (j : ℕ) (ds : List (List (List ℕ))) → All (Opens is_opening) ds → renumbered_from j (flatten ds) ≡ flatten (numbered_from (suc j) ds)
unfolding renumbered_from numbered_from flatten
dispositions_numbered j [] opens = refl
dispositions_numbered j (d ∷ ds) opens =
    let o = opens.0 in
    let i = suc j in
    let one : j + cond (is_opening o.first) 1 0 ≡ i = rw o.passes (add-one j) in
    ap (λ (l : List (List ℕ)). renumbered_from j (l ++ flatten ds)) o.whole
    ∙ ap (λ (n : ℕ). renumbered n o.first ∷ renumbered_from n (o.others ++ flatten ds)) one
    ∙ ap (λ (l : List (List ℕ)). renumbered i o.first ∷ l) (others_numbered i o.others (flatten ds) o.none)
    ∙ ap (λ (l : List (List ℕ)). map (renumbered i) l ++ renumbered_from i (flatten ds)) (sym o.whole)
    ∙ ap (λ (l : List (List ℕ)). map (renumbered i) d ++ l) (dispositions_numbered i ds opens.1)

-- a trailer gets its totals, and no byte before it or after it differs
trailer-counted :
    (t : Totals) (rec : List ℕ) → length rec ≡ 120 → (xs zs : List ℕ) → length xs ≡ 120 * (t.records - 1)
    → counted_at t (xs ++ (rec ++ zs)) ≡ xs ++ (recounted t rec ++ zs)
trailer-counted t rec whole xs zs place =
    let at = 120 * (t.records - 1) in
    let own : record_at (t.records - 1) (xs ++ (rec ++ zs)) ≡ rec = ap (take 120) (drop_at xs (rec ++ zs) at place) ∙ take_at rec zs 120 whole in
    ap (λ (l : List ℕ). put at (recounted t l) (xs ++ (rec ++ zs))) own
    ∙ put_at at xs rec zs (recounted t rec) place (whole ∙ sym (recounted-length t rec whole))

-- the bytes of the records around the disposition
module _ {f : List ℕ} {k : ℕ} {v : WithTotals} (s : FoundFacts f k v) where
  -- how many records there are, and how many go
  abbrev n : ℕ
  n = v.totals.records

  abbrev m : ℕ
  m = v.location.records

  abbrev at : ℕ
  at = v.location.first - 1

  abbrev left : ℕ
  left = n - m

  bytes_split : f ≡ flatten (before s) ++ (flatten (own s) ++ (flatten (after s) ++ (trailer s)))
  unfolding flatten
  bytes_split =
      let last : flatten ((after s) ++ ((trailer s) ∷ [])) ≡ flatten (after s) ++ (trailer s) = flatten-append (after s) ((trailer s) ∷ []) ∙ ap (λ (l : List ℕ). flatten (after s) ++ l) (append-nil (trailer s)) in
      sym (records_joined f n (s.size ∙ omega arith)) ∙ ap flatten (records_split s) ∙ flatten-append (before s) ((own s) ++ ((after s) ++ ((trailer s) ∷ [])))
      ∙ ap (λ (l : List ℕ). flatten (before s) ++ l) (flatten-append (own s) ((after s) ++ ((trailer s) ∷ [])) ∙ ap (λ (l : List ℕ). flatten (own s) ++ l) last)

  before-length : length (flatten (before s)) ≡ 120 * at
  before-length = flatten-length (before s) (pieces s).0 ∙ omega (arith, s.starts)

  own_length : length (flatten (own s)) ≡ 120 * m
  own_length = flatten-length (own s) (pieces s).1 ∙ omega (arith, s.own)

  after-length : length (flatten (after s)) ≡ 120 * length (after s)
  after-length = flatten-length (after s) (pieces s).2

  after-count : left - 1 - at ≡ length (after s)
  after-count =
      let lengths = simp length-append at (ap length bytes_split) in
      omega (arith, before-length, own_length, (pieces s).3, after-length, s.size, s.starts, s.ends)

  -- first the bytes after the disposition move up; what they leave at the end is written over in the end
  abbrev over : List ℕ
  over = drop (120 * at + length (flatten (after s) ++ (trailer s))) f

  moved : copy_within f (120 * (at + m)) (length f) (120 * at) ≡ flatten (before s) ++ (flatten (after s) ++ ((trailer s) ++ over))
  moved =
      let place : 120 * (at + m) ≡ 120 * at + 120 * m = omega arith in
      let front : take (120 * at) f ≡ flatten (before s) = ap (take (120 * at)) bytes_split ∙ take_at (flatten (before s)) (flatten (own s) ++ (flatten (after s) ++ (trailer s))) (120 * at) before-length in
      let back : drop (120 * (at + m)) f ≡ flatten (after s) ++ (trailer s) = (λ i. drop (place i) (bytes_split i)) ∙ drop-two (120 * at) (120 * m) (flatten (before s)) (flatten (own s)) (flatten (after s) ++ (trailer s)) before-length own_length in
      let size : length f - 120 * (at + m) ≡ length (flatten (after s) ++ (trailer s)) = sym (length-drop (120 * (at + m)) f) ∙ ap length back in
      (λ i. (front i ++ take_rest f (120 * (at + m)) i) ++ drop (120 * at + size i) f) ∙ ap (λ (l : List ℕ). (flatten (before s) ++ l) ++ over) back
      ∙ append_assoc (flatten (before s)) (flatten (after s) ++ (trailer s)) over ∙ ap (λ (l : List ℕ). flatten (before s) ++ l) (append_assoc (flatten (after s)) (trailer s) over)

  -- then the later dispositions get their numbers
  abbrev renewed : List ℕ
  renewed = flatten (renumbered_from (k - 1) (after s))

  renewed_length : length (flatten (after s)) ≡ length renewed
  renewed_length = after-length ∙ sym (renumbered-bytes (k - 1) (after s) (pieces s).2)

  numbered : let up = flatten (before s) ++ (flatten (after s) ++ ((trailer s) ++ over)) in
      put (120 * at) (flatten (renumbered_from (k - 1) (cut (left - 1 - at) (drop (120 * at) up)))) up ≡ flatten (before s) ++ (renewed ++ ((trailer s) ++ over))
  numbered =
      let rest = flatten (after s) ++ ((trailer s) ++ over) in
      let recs : cut (left - 1 - at) (drop (120 * at) (flatten (before s) ++ rest)) ≡ (after s) = (λ i. cut (after-count i) (drop_at (flatten (before s)) rest (120 * at) before-length i)) ∙ cut_front (after s) ((trailer s) ++ over) (pieces s).2 in
      ap (λ (l : List (List ℕ)). put (120 * at) (flatten (renumbered_from (k - 1) l)) (flatten (before s) ++ rest)) recs ∙ put_at (120 * at) (flatten (before s)) (flatten (after s)) ((trailer s) ++ over) renewed before-length renewed_length

  -- then the trailer its counts, and the rest becomes blanks
  abbrev counts : List ℕ
  counts = recounted (totals_left v) (trailer s)

  front_length : length (flatten (before s) ++ renewed) ≡ 120 * (left - 1)
  front_length = length-append (flatten (before s)) renewed ∙ omega (arith, before-length, sym renewed_length, after-length, after-count, s.starts, s.ends)

  counted :
      counted_at (totals_left v) (flatten (before s) ++ (renewed ++ ((trailer s) ++ over)))
      ≡ (flatten (before s) ++ renewed) ++ (counts ++ over)
  counted =
      ap (counted_at (totals_left v)) (sym (append_assoc (flatten (before s)) renewed ((trailer s) ++ over)))
      ∙ trailer-counted (totals_left v) (trailer s) (pieces s).3 (flatten (before s) ++ renewed) over front_length

  over-length : length over ≡ length f - 120 * left
  over-length =
      let starts = s.starts in
      let ends = s.ends in
      length-drop (120 * at + length (flatten (after s) ++ (trailer s))) f ∙ omega (arith, length-append (flatten (after s)) (trailer s), (pieces s).3, after-length, after-count)

  -- which is the flow that is meant
  joined : flatten (records_left f k n (totals_left v)) ≡ (flatten (before s) ++ renewed) ++ counts
  unfolding flatten
  joined =
      let ds = dispositions_in f in
      let some = s.some in
      let one : suc (k - 1) ≡ k = omega arith in
      let opens : All (Opens is_opening) (drop k ds) = all_after (Opens is_opening) (take k ds) (drop k ds) (subst (All (Opens is_opening)) (sym (take-append-drop k ds)) (groups_open is_opening (until_trailer f))) in
      let later : flatten (numbered_from k (drop k ds)) ≡ renumbered_from (k - 1) (after s) = sym (dispositions_numbered (k - 1) (drop k ds) opens ∙ ap (λ (i : ℕ). flatten (numbered_from i (drop k ds))) one) in
      let middle : flatten (without k ds) ≡ flatten (take (k - 1) ds) ++ renumbered_from (k - 1) (after s) = flatten-append (take (k - 1) ds) (numbered_from k (drop k ds)) ∙ ap (λ (l : List (List ℕ)). flatten (take (k - 1) ds) ++ l) later in
      ap (λ (l : List (List ℕ)). flatten ((record_at 0 f ∷ l) ++ (counts ∷ []))) middle ∙ flatten-append ((before s) ++ renumbered_from (k - 1) (after s)) (counts ∷ [])
      ∙ (λ i. flatten-append (before s) (renumbered_from (k - 1) (after s)) i ++ append-nil counts i)

  whole-length : length ((flatten (before s) ++ renewed) ++ (counts ++ over)) ≡ length f
  whole-length =
      let front = flatten (before s) ++ renewed in
      let end = recounted-length (totals_left v) (trailer s) (pieces s).3 in
      length-append front (counts ++ over) ∙ omega (arith, length-append counts over, over-length, front_length, s.size, s.starts, s.ends)

  blanked : let all = (flatten (before s) ++ renewed) ++ (counts ++ over) in
      take (120 * left) all ++ replicate (length all - 120 * left) 32 ≡ withdrawn f k n (totals_left v)
  blanked =
      let front = flatten (before s) ++ renewed in
      let end = recounted-length (totals_left v) (trailer s) (pieces s).3 in
      let ends = s.ends in
      let starts = s.starts in
      let through : length (front ++ counts) ≡ 120 * left = length-append front counts ∙ omega (arith, front_length) in
      let kept : take (120 * left) (front ++ (counts ++ over)) ≡ front ++ counts = ap (take (120 * left)) (sym (append_assoc front counts over)) ∙ take_at (front ++ counts) over (120 * left) through in
      (λ i. kept i ++ replicate (whole-length i - 120 * left) 32) ∙ ap (λ (l : List ℕ). l ++ replicate (length f - 120 * left) 32) (sym joined)

  -- by the indices that the code has, and its steps
  pub withdrawn_so :
      {a taken kept : ℕ} → a ≡ v.location.first → taken ≡ m → kept ≡ left
      → (f₁ f₂ f₃ blanks : List ℕ) → f₁ ≡ copy_within f (120 * (a - 1 + taken)) (length f) (120 * (a - 1))
      → f₂ ≡ put (120 * (a - 1)) (flatten (renumbered_from (k - 1) (cut (kept - 1 - (a - 1)) (drop (120 * (a - 1)) f₁)))) f₁
      → f₃ ≡ counted_at (totals_left v) f₂ → blanks ≡ replicate (length f₃ - 120 * kept) 32
      → put_mid (120 * kept) (length f₃ - 120 * kept) f₃ blanks ≡ withdrawn f k n (totals_left v)
  withdrawn_so begins takes ends f₁ f₂ f₃ blanks first_step second-step third-step last_step =
      let one = first_step ∙ (λ i. copy_within f (120 * (begins i - 1 + takes i)) (length f) (120 * (begins i - 1))) ∙ moved in
      let two =
      second-step ∙ (λ i. put (120 * (begins i - 1)) (flatten (renumbered_from (k - 1) (cut (ends i - 1 - (begins i - 1)) (drop (120 * (begins i - 1)) (one i))))) (one i)) ∙ numbered in
      let three = third-step ∙ ap (counted_at (totals_left v)) two ∙ counted in
      let long : length f₃ ≡ length f = ap length three ∙ whole-length in
      filled _ f₃ blanks (omega (arith, s.size)) last_step ∙ (λ i. take (120 * ends i) (three i) ++ replicate (length (three i) - 120 * ends i) 32) ∙ blanked
