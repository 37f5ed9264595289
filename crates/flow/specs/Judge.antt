-- What a flow is answered: number 1 by its length; then record by record, the first fault of the lowest record; then 4 where a record
-- is still due (document 01, "Numbers a clerk may see"). Assumes nothing.
use Rattle.std.specs.Prelude.{ℕ, suc, cond, List, [], ◌∷◌, length, take}
use Rattle.records.specs.Context.{Header, header_of}
use Rattle.records.specs.FlowKinds.{or_requests}
use Rattle.records.specs.RecordVerdict.{RecordVerdict, right}
use Rattle.records.specs.RecordVerdict.{refused as RecordVerdict-refused}
use Rattle.records.specs.declared.kind.RecordKind.{RecordKind}
use Rattle.flow.specs.Order.{permitted, is_due}
use Rattle.flow.specs.Records.{is_length, records_of}
use Rattle.flow.specs.Walking.{start, step, company_after, judge_record}
use Rattle.flow.specs.Verdict.{Verdict, accepted, refused, refusal, of_call}
use Rattle.flow.specs.declared.answer.Totals.{Totals}
use Rattle.flow.specs.declared.walk.Walk.{Walk}

-- a fault of the n-th record is the answer; after a right record the rest decides
abbrev pub unless_fault : ℕ → RecordVerdict → (RecordKind → ℕ → Verdict Totals) → Verdict Totals
unless_fault n (right k c) rest = rest k c
unless_fault n (RecordVerdict-refused e p) rest = refused (refusal e n p)

-- the totals of n records that the walk has gone over; a walk that met no 14 counts as requests
abbrev pub walk_totals : Walk → ℕ → Totals
walk_totals w n = record { kind = or_requests w.kind; dispositions = w.dispositions; cents = w.cents; records = n }

-- the flow has ended after n records
abbrev pub ended : Walk → ℕ → Verdict Totals
ended w n = cond (is_due (permitted w.place.due)) (refused (refusal 4 (suc n) 0)) (accepted (walk_totals w n))

-- the records after the first n, and `end` after the last
unfoldable pub walk_from : (Walk → ℕ → Verdict Totals) → Header → Walk → List ℕ → ℕ → List (List ℕ) → Verdict Totals
walk_from end header w company n [] = end w n
walk_from end header w company n (rec ∷ recs) =
    unless_fault (suc n) (judge_record header w company (suc n) rec) (λ k c. walk_from end header (step w k c rec) (company_after company k rec) (suc n) recs)

unfoldable pub judge : List ℕ → Verdict Totals
judge f = cond (is_length (length f)) (walk_from ended (header_of (take 120 f)) start [] 0 (records_of f)) (refused (of_call 1))
