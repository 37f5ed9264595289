-- The walk over a flow, a record at a time: what is found of a record at its place, and the state after it. The counts here are exact;
-- the code's stop where the trailer's digits end. Assumes nothing.
use Rattle.std.specs.Prelude.{ℕ, ◌+◌, min, cond, ◌&&◌, List, eqb, length}
use Rattle.records.specs.Bytes.{bad_byte}
use Rattle.records.specs.Company.{company_in, is_none}
use Rattle.records.specs.Context.{Header, context}
use Rattle.records.specs.FlowKinds.{kind_in, first_known}
use Rattle.records.specs.RecordVerdict.{RecordVerdict, refused}
use Rattle.records.specs.Judge.{judge_as}
use Rattle.records.specs.Kinds.{opens, opened}
use Rattle.records.specs.Limits.{count_limit, cents_limit}
use Rattle.records.specs.declared.judged.Counts.{Counts}
use Rattle.records.specs.declared.kind.RecordKind.{RecordKind}
use Rattle.flow.specs.Order.{permitted, place_due, place_after, among}
use Rattle.flow.specs.declared.order.Due.TheVariants.{OnlyIm}
use Rattle.flow.specs.declared.walk.Walk.{Walk}
use Rattle.records.specs.declared.flow_kind.FlowKind.{FlowKind}
use Rattle.std.specs.Prelude.{Option, Some, None}

abbrev pub start : Walk
start = record { place = place_due OnlyIm; kind = None; dispositions = 0; cents = 0 }

-- the dispositions up to and with a record of the kind
abbrev pub dispositions_with : Walk → RecordKind → ℕ
dispositions_with w k = w.dispositions + opened k

-- the kind of flow after a record of the kind: the first record 14 decides it (document 02, E1)
abbrev pub kind_after : Option FlowKind → RecordKind → List ℕ → Option FlowKind
kind_after q k rec = cond (opens k) (first_known q (kind_in rec)) q

-- the state after a right record of the kind that asks for c cents
abbrev pub step : Walk → RecordKind → ℕ → List ℕ → Walk
step w k c rec =
    record { place = place_after w.place.further k; kind = kind_after w.kind k rec; dispositions = dispositions_with w k; cents = w.cents + c }

-- of two values the one that goes with the company code of the first record 14, after a record of the kind: `new` with that record's own
-- code, where it is the first 14, and else `old` with the code before it (document 02, E4)
abbrev pub first_by : {A : Type 0} → List ℕ → RecordKind → A → A → A
first_by company k old new = cond (opens k && is_none company) new old

-- that company code itself, after a record of the kind that has the code; and after the record
abbrev pub first_company : List ℕ → RecordKind → List ℕ → List ℕ
first_company company k code = first_by company k company code

abbrev pub company_after : List ℕ → RecordKind → List ℕ → List ℕ
company_after company k rec = first_company company k (company_in rec)

abbrev pub counts_at : Walk → ℕ → RecordKind → Counts
counts_at w n k = record { dispositions = dispositions_with w k; cents = w.cents; records = n }

-- number 3 where no permitted type stands at 2-3, else what the rules of its kind find
unfoldable pub judge_typed : Header → Walk → List ℕ → ℕ → List ℕ → Option RecordKind → RecordVerdict
judge_typed header w company n rec None = refused 3 2
judge_typed header w company n rec (Some k) = judge_as k (context header company w.kind (counts_at w n k)) rec

-- the n-th record of a flow, in the order of document 01: 2 at its lowest byte, then 3, then its kind's checks
unfoldable pub judge_record : Header → Walk → List ℕ → ℕ → List ℕ → RecordVerdict
judge_record header w company n rec =
    cond (eqb (length rec) 120)
    (cond (eqb (bad_byte rec) 0) (judge_typed header w company n rec (among (permitted w.place.due) rec)) (refused 2 (bad_byte rec)))
    (refused 1 0)

-- the code's counts stop one above what the trailer's digits hold, where no record can tell them from the exact ones
abbrev pub saturated : Walk → Walk
saturated w = record { place = w.place; kind = w.kind; dispositions = min w.dispositions count_limit; cents = min w.cents cents_limit }
