-- Demand 1. Assumes nothing.
use Rattle.std.specs.Prelude.{ℕ, true, List, [], ◌∷◌, ◌++◌, ◌≡◌}
use Rattle.fields.specs.Amount.{amount_field}
use Rattle.fields.specs.FieldVerdict.{refused as FieldVerdict-refused}
use Rattle.fields.specs.Date.{date_field}
use Rattle.fields.specs.Digits.{digit_field}
use Rattle.fields.specs.Laws.{FieldRefused, AmountRefused, AmountTested, DateRefused}
use Rattle.records.specs.Checks.{is_listed}
use Rattle.records.specs.Context.{Header, Context}
use Rattle.records.specs.RecordVerdict.{refused as RecordVerdict-refused}
use Rattle.records.specs.Judge.{judge_as}
use Rattle.records.specs.Laws.{ChecksInOrder, BrokenExact, OneForLength, AmountRows}
use Rattle.records.specs.declared.kind.RecordKind.{RecordKind}
use Rattle.flow.specs.Find.{find, find_with_totals}
use Rattle.flow.specs.Judge.{judge}
use Rattle.flow.specs.Laws.{LengthRefused, FindRefused, PartPlaced, FindWithTotalsExact}
use Rattle.flow.specs.Walking.{judge_record}
use Rattle.flow.specs.Verdict.{refused}
use Rattle.flow.specs.Verdict.{Refusal}
use Rattle.flow.specs.declared.walk.Walk.{Walk}
use Rattle.grammar.specs.Laws.{FirstFaultExact, RightOrFaulty, PlaceFaultExact, PartEmpty}
use Rattle.list.specs.Laws.{FaultyExact, WriteRefused, WriteAnswers, WriteLeaves, ReadBackRefused, ReadBackAnswers, ReadBackLeaves}
use Rattle.list.specs.ReadBack.{judge_room}
use Rattle.list.specs.Write.{judge_list}
use Rattle.amend.specs.Change.{change}
use Rattle.amend.specs.Laws.{ChangeRefused, WithdrawRefused, RefusedUntouched}
use Rattle.amend.specs.Withdraw.{withdraw}
use Rattle.evenings.specs.Compare.{judge_comparison, find_line}
use Rattle.evenings.specs.Laws.{CompareRefused, CompareAccepted, CompareLeaves, LineRefused, LinePlaced}
use Rattle.capi.specs.Laws.{RefusedLeaves, ReturnedTells}
use Rattle.claims.specs.EntryPoints.{EntryPoints}

-- the numbers that documents 01 and 02 give to each call; 19 is given to none
abbrev pub reading_numbers : List ℕ
reading_numbers = 1 ∷ 2 ∷ 3 ∷ 4 ∷ 5 ∷ 6 ∷ 7 ∷ 8 ∷ 9 ∷ 10 ∷ 11 ∷ 12 ∷ 13 ∷ 14 ∷ 22 ∷ 25 ∷ []

abbrev pub finding_numbers : List ℕ
finding_numbers = reading_numbers ++ (15 ∷ [])

-- a record alone, and at its place in the flow
abbrev pub record_numbers : List ℕ
record_numbers = 1 ∷ 5 ∷ 6 ∷ 7 ∷ 8 ∷ 9 ∷ 10 ∷ 11 ∷ 12 ∷ 13 ∷ 14 ∷ 22 ∷ 25 ∷ []

abbrev pub place_numbers : List ℕ
place_numbers = 2 ∷ 3 ∷ record_numbers

-- writing gives none of 4, 9, 12, 13, 14 and 22: the flow always ends with EF, which is not judged, and the writer itself gives each record its
-- number and each 14 the causale of the header meant
abbrev pub writing_numbers : List ℕ
writing_numbers = 20 ∷ 1 ∷ 21 ∷ 2 ∷ 3 ∷ 5 ∷ 6 ∷ 7 ∷ 8 ∷ 10 ∷ 11 ∷ 25 ∷ 17 ∷ []

abbrev pub reading_back_numbers : List ℕ
reading_back_numbers = reading_numbers ++ (21 ∷ [])

abbrev pub change_numbers : List ℕ
change_numbers = reading_numbers ++ (15 ∷ 16 ∷ 17 ∷ [])

abbrev pub withdrawal_numbers : List ℕ
withdrawal_numbers = reading_numbers ++ (15 ∷ 18 ∷ [])

-- comparing two flows, and a line of their account
abbrev pub comparing_numbers : List ℕ
comparing_numbers = reading_numbers ++ (27 ∷ 28 ∷ 34 ∷ 21 ∷ [])

abbrev pub line_numbers : List ℕ
line_numbers = reading_numbers ++ (27 ∷ 28 ∷ 34 ∷ 15 ∷ [])

-- a refusal's number is one of these
abbrev pub OneOf : List ℕ → ℕ → Type 0
OneOf ns n = is_listed n ns ≡ true

pub record NumbersGiven : Type 0 where
  pub digits : (bs : List ℕ) (n : ℕ) → digit_field bs ≡ FieldVerdict-refused n → OneOf (5 ∷ []) n
  pub amount : (bs : List ℕ) (n : ℕ) → amount_field bs ≡ FieldVerdict-refused n → OneOf (5 ∷ 25 ∷ []) n
  pub date : (bs : List ℕ) (n : ℕ) → date_field bs ≡ FieldVerdict-refused n → OneOf (5 ∷ 8 ∷ []) n
  pub record_judging : (k : RecordKind) (ctx : Context) (rec : List ℕ) (n p : ℕ) → judge_as k ctx rec ≡ RecordVerdict-refused n p → OneOf record_numbers n
  pub walking : (header : Header) (w : Walk) (company : List ℕ) (i : ℕ) (rec : List ℕ) (n p : ℕ) → judge_record header w company i rec ≡ RecordVerdict-refused n p → OneOf place_numbers n
  pub reading : (f : List ℕ) (x : Refusal) → judge f ≡ refused x → OneOf reading_numbers x.number
  pub finding : (f : List ℕ) (k : ℕ) (x : Refusal) → find f k ≡ refused x → OneOf finding_numbers x.number
  pub finding_with_totals : (f : List ℕ) (k : ℕ) (x : Refusal) → find_with_totals f k ≡ refused x → OneOf finding_numbers x.number
  pub writing : (list : List ℕ) (room : ℕ) (x : Refusal) → judge_list list room ≡ refused x → OneOf writing_numbers x.number
  pub reading_back : (f : List ℕ) (room : ℕ) (x : Refusal) → judge_room f room ≡ refused x → OneOf reading_back_numbers x.number
  pub changing : (f : List ℕ) (k new : ℕ) (x : Refusal) → (change f k new).answer ≡ refused x → OneOf change_numbers x.number
  pub withdrawing : (f : List ℕ) (k : ℕ) (x : Refusal) → (withdraw f k).answer ≡ refused x → OneOf withdrawal_numbers x.number
  pub comparing : (old new : List ℕ) (lent room : ℕ) (x : Refusal) → judge_comparison old new lent room ≡ refused x → OneOf comparing_numbers x.number
  pub asking_a_line : (old new : List ℕ) (lent n : ℕ) (x : Refusal) → find_line old new lent n ≡ refused x → OneOf line_numbers x.number

pub record Demand1 : Type 2 where
  -- "whatever bytes we lend, every entry point ends with an answer and asks nothing of us first"
  pub entry_points : EntryPoints
  -- "a refusal gives one number, one record and one position from the table, always the first fault in the stated order, and no lent byte
  -- has changed"
  pub numbers : NumbersGiven
  -- the field rules: what is refused, and by which number; and the test that a change makes of its new amount is the amount's rule
  pub digits : FieldRefused
  pub amount : AmountRefused
  pub amount_tested : AmountTested
  pub date : DateRefused
  -- one record: the checks stand in the stated order, a record is refused exactly by the first that fails, and by 1 exactly for its length
  pub checks_in_order : ChecksInOrder
  pub broken : BrokenExact
  pub one_for_length : OneForLength
  -- and what the table says at the amount's place is the field rule of the amount
  pub amount-rows : AmountRows
  -- the same at its place in the flow, where 2 and 3 come first
  pub at_place : PlaceFaultExact
  -- a flow is refused exactly by its first fault: every record before it is right at its place, every earlier check of its record holds and
  -- this one fails; what has no fault is accepted
  pub read : FirstFaultExact
  pub right_or_faulty : RightOrFaulty
  pub length-refused : LengthRefused
  -- where a disposition is: the reader's refusals, then 15; and a refusal's part is empty, at the start of the flow
  pub find : FindRefused
  pub part : PartEmpty
  pub part_placed : PartPlaced
  pub find_with_totals_exact : FindWithTotalsExact
  -- a list: which item is none, and each refusal of writing where those before it do not apply
  pub faulty : FaultyExact
  pub write : WriteRefused
  pub write_answers : WriteAnswers
  pub read_back : ReadBackRefused
  pub read_back_answers : ReadBackAnswers
  -- the amendments: the reader's refusals, then each of their own where those before it do not apply
  pub change-refused : ChangeRefused
  pub withdraw-refused : WithdrawRefused
  -- two flows compared, and a line of their account: the old flow's refusals, the new flow's, then each of their own where those before it do
  -- not apply; a refused line's part is empty, at the start of the old flow
  pub compare-refused : CompareRefused
  pub compare-accepted : CompareAccepted
  pub line_refused : LineRefused
  pub line_placed : LinePlaced
  -- and every buffer is as before
  pub written_none : WriteLeaves
  pub read_back-none : ReadBackLeaves
  pub amended-none : RefusedUntouched
  pub compared-none : CompareLeaves
  -- so it is through the C interface, whose entries tell the whole answer (of an accepted date no day)
  pub returned-none : RefusedLeaves
  pub returned_tells : ReturnedTells
