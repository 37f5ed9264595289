-- What is proved of reading a flow and of finding a disposition, against statements that know neither the walk nor a search for the
-- first fault. `proofs/` has its proof under the law's name in small letters. Assumes nothing.
use Rattle.std.specs.Prelude.{ℕ, suc, ◌+◌, ◌-◌, ◌*◌, ◌≤◌, ◌<◌, true, ◌↔◌, ◌⊎◌, ◌≡◌, length}
use mathlib.Core.List.{List, [], map, flatten}
use Rattle.sequences.specs.All.{All}
use Rattle.sequences.specs.Part.{part}
use Rattle.sequences.specs.Sum.{sum, up_to}
use Rattle.records.specs.Amount.{amount_in}
use Rattle.records.specs.Company.{company_in}
use Rattle.records.specs.Context.{Header, context}
use Rattle.records.specs.Field.{field}
use Rattle.records.specs.RecordVerdict.{refused as RecordVerdict-refused}
use Rattle.records.specs.Kinds.{type_of, is_opening}
use Rattle.records.specs.declared.kind.RecordKind.{RecordKind}
use Rattle.records.specs.declared.kind.RecordKind.TheVariants.{R14}
use Rattle.flow.specs.Find.{dispositions_in, find, part_of}
use Rattle.flow.specs.Judge.{judge}
use Rattle.flow.specs.Order.{In, permitted}
use Rattle.flow.specs.Records.{record_at, records_of}
use Rattle.flow.specs.Walking.{counts_at, judge_record}
use Rattle.flow.specs.Verdict.{Verdict, accepted, refused}
use Rattle.flow.specs.Verdict.{Refusal}
use Rattle.flow.specs.declared.answer.Totals.{Totals}
use Rattle.flow.specs.declared.location.Location.{Location}
use Rattle.flow.specs.declared.walk.Walk.{Walk}
use Rattle.grammar.specs.Fault.{company_of, Fault, FirstFault}
use Rattle.grammar.specs.Grammar.{records_in, Grammar}
use Rattle.grammar.specs.Rules.{Says, KindRules}

-- a flow is accepted exactly where it is one of the grammar, and its answer is the exact sums
abbrev pub GrammarExact : Type 0
GrammarExact = (f : List ℕ) (t : Totals) → (judge f ≡ accepted t) ↔ Grammar f t

-- so a flow that is accepted has one kind: each of its records 14 has that kind's causale and sign
abbrev pub OneKind : Type 0
OneKind = (f : List ℕ) (t : Totals) → judge f ≡ accepted t → All (λ (rec : List ℕ). is_opening rec ≡ true → KindRules t.kind rec) (records_of f)

-- and one company code: each of its records 14 has that of the first, blanks too (document 02, E4)
abbrev pub OneCompany : Type 0
OneCompany = (f : List ℕ) (t : Totals) → judge f ≡ accepted t → All (λ (rec : List ℕ). is_opening rec ≡ true → company_in rec ≡ company_of (records_of f)) (records_of f)

-- a flow is refused exactly by its first fault
abbrev pub FirstFaultExact : Type 0
FirstFaultExact = (f : List ℕ) (x : Refusal) → (judge f ≡ refused x) ↔ FirstFault f x

-- a record of 120 bytes is refused at its place in the walk exactly by its fault there: a bad byte, a type that is not permitted there, or
-- the first check of its kind that fails; one of another length by 1
abbrev pub PlaceFaultExact : Type 0
PlaceFaultExact =
    (header : Header) (w : Walk) (company : List ℕ) (i : ℕ) (rec : List ℕ)
    → (length rec ≡ 120 → (n p : ℕ) → (judge_record header w company i rec ≡ RecordVerdict-refused n p) ↔ Fault (λ (k : RecordKind). In k (permitted w.place.due)) (λ (k : RecordKind). context header company w.kind (counts_at w i k)) rec n p)
    × (¬ (length rec ≡ 120) → judge_record header w company i rec ≡ RecordVerdict-refused 1 0)

-- so every list of bytes is the one or has the other, and never both
abbrev pub RightOrFaulty : Type 0
RightOrFaulty =
    (f : List ℕ) → let right = (t : Totals) × Grammar f t in let faulty = (x : Refusal) × FirstFault f x in
    (right ⊎ faulty) × ¬ (right × faulty)

-- the dispositions that are found in a flow are those of the grammar, however that takes it apart
abbrev pub DispositionsExact : Type 0
DispositionsExact = (f : List ℕ) (t : Totals) (g : Grammar f t) → dispositions_in f ≡ map records_in g.parts.dispositions

-- the cents of a disposition that stands in the flow, its first record, and the record after its last
abbrev pub cents_at : Verdict Location → ℕ
cents_at (accepted s) = s.cents
cents_at (refused x) = 0

abbrev pub first_at : Verdict Location → ℕ
first_at (accepted s) = s.first
first_at (refused x) = 0

abbrev pub end_at : Verdict Location → ℕ
end_at (accepted s) = s.first + s.records
end_at (refused x) = 0

-- the parts of 1 to the count, in order, are the bytes between header and trailer, and their amounts sum to the answer's cents
abbrev pub PartsExact : Type 0
PartsExact =
    (f : List ℕ) (t : Totals) → judge f ≡ accepted t
    → (flatten (map (part_of f) (up_to t.dispositions)) ≡ part 120 (length f - 240) f) × (sum (map (λ (k : ℕ). cents_at (find f k)) (up_to t.dispositions)) ≡ t.cents)

-- they stand one after the other, from the record after the header up to the trailer, which is the last
abbrev pub PlacesExact : Type 0
PlacesExact =
    (f : List ℕ) (t : Totals) → judge f ≡ accepted t
    → (first_at (find f 1) ≡ 2) × ((k : ℕ) → 1 ≤ k → k < t.dispositions → first_at (find f (suc k)) ≡ end_at (find f k)) × (end_at (find f t.dispositions) ≡ t.records)

-- what is found of k starts with a 14 that says k and the amount, and its part is those records
abbrev pub OpeningExact : Type 0
OpeningExact =
    (f : List ℕ) (k : ℕ) (s : Location) → find f k ≡ accepted s → let rec = record_at (s.first - 1) f in
    (field 2 3 rec ≡ type_of R14) × Says k (field 4 10 rec) × Says s.cents (amount_in rec) × (part_of f k ≡ part (120 * (s.first - 1)) (120 * s.records) f)

-- a part is empty exactly where the question is refused
abbrev pub PartEmpty : Type 0
PartEmpty = (f : List ℕ) (k : ℕ) → (part_of f k ≡ []) ↔ ((x : Refusal) × (find f k ≡ refused x))
