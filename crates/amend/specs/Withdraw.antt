-- Withdraw disposition k (document 01, "Questions and changes": the reader's refusals, 15, 18; its records go, later ones move up in
-- order; among those kept only 4-10 of the later dispositions and 46-52, 53-67, of a recall 68-82 (document 02, E1), 83-89 of EF may differ;
-- the freed bytes at the end become blanks; the new length is returned too). Assumes nothing.
use Rattle.std.specs.Prelude.{ℕ, suc, ◌+◌, ◌-◌, ◌*◌, cond, ltb, length, take, drop, replicate}
use mathlib.Core.List.{List, [], ◌∷◌, ◌++◌, map, flatten}
use Rattle.sequences.specs.Part.{put}
use Rattle.fields.specs.Digits.{digits}
use Rattle.records.specs.Field.{first_of}
use Rattle.records.specs.FlowKinds.{total_span}
use Rattle.records.specs.Kinds.{is_opening}
use Rattle.flow.specs.Find.{dispositions_in, find_with_totals}
use Rattle.flow.specs.Records.{record_at}
use Rattle.flow.specs.Verdict.{accepted, of_call}
use Rattle.flow.specs.declared.answer.Totals.{Totals}
use Rattle.flow.specs.declared.location.WithTotals.{WithTotals}
use Rattle.amend.specs.Amended.{Amended, unchanged, where_found, written_at}

-- a record with another number at 4-10
abbrev pub renumbered : ℕ → List ℕ → List ℕ
renumbered j rec = written_at 4 (digits 7 j) rec

-- dispositions with the numbers j, j + 1, ..
unfoldable pub numbered_from : ℕ → List (List (List ℕ)) → List (List (List ℕ))
numbered_from j [] = []
numbered_from j (d ∷ ds) = map (renumbered j) d ∷ numbered_from (suc j) ds

-- the dispositions without the k-th: those before it as they are, those after it with the numbers from k on
abbrev pub without : ℕ → List (List (List ℕ)) → List (List (List ℕ))
without k ds = take (k - 1) ds ++ numbered_from k (drop k ds)

-- for the contract of a private function: records after disposition j, one more at each 14
unfoldable pub renumbered_from : ℕ → List (List ℕ) → List (List ℕ)
renumbered_from j [] = []
renumbered_from j (rec ∷ recs) = let i = j + cond (is_opening rec) 1 0 in renumbered i rec ∷ renumbered_from i recs

-- the totals without disposition k: it, its cents and its records go
abbrev pub totals_left : WithTotals → Totals
totals_left v =
    let t = v.totals in
    record { kind = t.kind; dispositions = t.dispositions - 1; cents = t.cents - v.location.cents; records = t.records - v.location.records }

-- the trailer with other totals: 46-52, the total at the place of its kind, and 83-89
abbrev pub recounted : Totals → List ℕ → List ℕ
recounted t rec = written_at 83 (digits 7 t.records) (written_at (first_of (total_span t.kind)) (digits 15 t.cents) (written_at 46 (digits 7 t.dispositions) rec))

-- for the contract of a private function: a flow of t's records with these totals in the last of them
abbrev pub counted_at : Totals → List ℕ → List ℕ
counted_at t f = let last = t.records - 1 in put (120 * last) (recounted t (record_at last f)) f

-- the records that are left, of a flow of n records: the header, the other dispositions, and the trailer with the totals t
abbrev pub records_left : List ℕ → ℕ → ℕ → Totals → List (List ℕ)
records_left f k n t = (record_at 0 f ∷ flatten (without k (dispositions_in f))) ++ (recounted t (record_at (n - 1) f) ∷ [])

-- "the freed bytes at the end of the lent memory become blanks"
abbrev pub withdrawn : List ℕ → ℕ → ℕ → Totals → List ℕ
withdrawn f k n t = flatten (records_left f k n t) ++ replicate (length f - 120 * t.records) 32

-- disposition k stands in the flow: 18, then the withdrawal
abbrev pub withdraw_at : ℕ → WithTotals → List ℕ → Amended
withdraw_at k v f =
    let t = totals_left v in
    cond (ltb 1 v.totals.dispositions)
    (record { answer = accepted t; size = 120 * t.records; bytes = withdrawn f k v.totals.records t })
    (unchanged (of_call 18) f)

unfoldable pub withdraw : List ℕ → ℕ → Amended
withdraw f k = where_found (find_with_totals f k) (λ (v : WithTotals). withdraw_at k v f) f
