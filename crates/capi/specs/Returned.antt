-- What a function of the C interface returns and writes into `answer`. Assumes nothing.
use Rattle.std.specs.Prelude.{ℕ, List, [], ◌∷◌}
use Rattle.fields.specs.FieldVerdict.{FieldVerdict, accepted, refused}
use Rattle.fields.specs.declared.calendar.Day.{Day}
use Rattle.records.specs.declared.flow_kind.FlowKind.{FlowKind}
use Rattle.records.specs.declared.flow_kind.FlowKind.TheVariants.{Requests, Recalls}
use Rattle.flow.specs.Output.{Output}
use Rattle.flow.specs.Verdict.{Verdict, of_call}
use Rattle.flow.specs.Verdict.{accepted as Verdict-accepted, refused as Verdict-refused}
use Rattle.flow.specs.Verdict.{Refusal}
use Rattle.flow.specs.declared.answer.Totals.{Totals}
use Rattle.flow.specs.declared.location.Location.{Location}
use Rattle.amend.specs.Amended.{Amended}
use Rattle.evenings.specs.declared.account_line.AccountLine.{AccountLine}
use Rattle.evenings.specs.declared.comparison.Lines.{Lines}

-- what is returned, and the eight entries afterwards
pub record Returned : Type 0 where
  pub status : ℕ
  pub entries : List ℕ

abbrev pub returned : ℕ → List ℕ → Returned
returned s es = record { status = s; entries = es }

-- three numbers, the length, the kind of flow, and three zeros; 0 where there is no kind to tell
abbrev pub returned_five : ℕ → ℕ → ℕ → ℕ → ℕ → ℕ → Returned
returned_five s a b c l k = returned s (a ∷ b ∷ c ∷ l ∷ k ∷ 0 ∷ 0 ∷ 0 ∷ [])

abbrev pub returned_three : ℕ → ℕ → ℕ → ℕ → ℕ → Returned
returned_three s a b c l = returned_five s a b c l 0

-- the kinds of flow by their numbers
abbrev pub kind_entry : FlowKind → ℕ
kind_entry Requests = 1
kind_entry Recalls = 2

-- refused is 0
abbrev pub of_refusal : Refusal → ℕ → Returned
of_refusal x l = returned_three 0 x.number x.«record» x.position l

-- accepted is 1: the totals
abbrev pub of_verdict : Verdict Totals → ℕ → Returned
of_verdict (Verdict-accepted t) l = returned_five 1 t.dispositions t.cents t.records l (kind_entry t.kind)
of_verdict (Verdict-refused x) l = of_refusal x l

-- or where a disposition stands: its first record, its records and its cents
abbrev pub of_found : Verdict Location → Returned
of_found (Verdict-accepted s) = returned_three 1 s.first s.records s.cents 0
of_found (Verdict-refused x) = of_refusal x 0

-- a field rule's refusal is its number alone
abbrev pub of_number : FieldVerdict ℕ → Returned
of_number (accepted v) = returned_three 1 v 0 0 0
of_number (refused e) = of_refusal (of_call e) 0

-- a date has no number to tell
abbrev pub of_day : FieldVerdict Day → Returned
of_day (accepted t) = returned_three 1 0 0 0 0
of_day (refused e) = of_refusal (of_call e) 0

-- writing and reading back tell the length written
abbrev pub of_output : Output Totals → Returned
of_output o = of_verdict o.answer o.written

-- a change leaves the length as it is and tells none
abbrev pub of_change : Amended → Returned
of_change a = of_verdict a.answer 0

-- a withdrawal tells the length of the flow left; refused, the length lent
abbrev pub of_withdrawal : Amended → Returned
of_withdrawal a = of_verdict a.answer a.size

-- a comparison tells the lines kept, dropped and added, and the length written
abbrev pub of_lines : Verdict Lines → ℕ → Returned
of_lines (Verdict-accepted s) l = returned_three 1 s.kept s.dropped s.added l
of_lines (Verdict-refused x) l = of_refusal x l

abbrev pub of_compared : Output Lines → Returned
of_compared o = of_lines o.answer o.written

-- a line tells its letter and the number of its record 14
abbrev pub of_line : Verdict AccountLine → Returned
of_line (Verdict-accepted s) = returned_three 1 s.letter s.«record» 0 0
of_line (Verdict-refused x) = of_refusal x 0
