-- Change the amount of disposition k (document 01, "Questions and changes": the reader's refusals, 15, 16, 17; only 34-46 of that record 14
-- and 53-67 of EF may differ, of a recall 68-82 (document 02, E1); new total = old total - old amount + new amount; E5: 16 for a change to 0
-- too). Assumes nothing.
use Rattle.std.specs.Prelude.{ℕ, ◌+◌, ◌-◌, cond, List, leb, length}
use Rattle.fields.specs.Amount.{is_amount}
use Rattle.fields.specs.Digits.{digits}
use Rattle.records.specs.Amount.{amount_span}
use Rattle.records.specs.Field.{first_of, width}
use Rattle.records.specs.FlowKinds.{total_span}
use Rattle.records.specs.Limits.{most_cents}
use Rattle.flow.specs.Find.{find_with_totals}
use Rattle.flow.specs.Verdict.{accepted, of_call}
use Rattle.flow.specs.declared.answer.Totals.{Totals}
use Rattle.flow.specs.declared.location.WithTotals.{WithTotals}
use Rattle.amend.specs.Amended.{Amended, unchanged, where_found, written_in_record}

-- the totals with the new amount for the one that stood there
abbrev pub totals_changed : WithTotals → ℕ → Totals
totals_changed v new =
    let t = v.totals in
    record { kind = t.kind; dispositions = t.dispositions; cents = t.cents - v.location.cents + new; records = t.records }

-- the flow with the new amount in record `first`, a 14, and the total in its last record, the trailer, at the place of its kind
abbrev pub changed : ℕ → ℕ → Totals → List ℕ → List ℕ
changed first new t f = written_in_record t.records (first_of (total_span t.kind)) (digits 15 t.cents) (written_in_record first (first_of amount_span) (digits (width amount_span) new) f)

-- disposition k stands in the flow: 16, then 17, then the change
abbrev pub change_at : WithTotals → ℕ → List ℕ → Amended
change_at v new f =
    let t = totals_changed v new in
    cond (is_amount new)
    (cond (leb t.cents most_cents) (record { answer = accepted t; size = length f; bytes = changed v.location.first new t f }) (unchanged (of_call 17) f))
    (unchanged (of_call 16) f)

unfoldable pub change : List ℕ → ℕ → ℕ → Amended
change f k new = where_found (find_with_totals f k) (λ (v : WithTotals). change_at v new f) f
