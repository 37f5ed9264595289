-- What is proved of reading a flow and of asking where a disposition is. `proofs/` has its proof under the law's name in small letters.
-- Assumes nothing.
use Rattle.std.specs.Prelude.{ℕ, ◌+◌, ◌-◌, ◌*◌, ◌≤◌, ◌<◌, true, List, ◌↔◌, ◌⊎◌, ◌≡◌, length, Result}
use Rattle.sequences.specs.All.{All}
use Rattle.sequences.specs.Part.{part}
use Rattle.fields.specs.Amount.{IsAmount}
use Rattle.fields.specs.Digits.{number}
use Rattle.records.specs.Amount.{amount_in}
use Rattle.records.specs.Kinds.{is_opening}
use Rattle.flow.specs.Find.{IsNumber, find, part_of, offset_of, find_with_totals}
use Rattle.flow.specs.Judge.{judge}
use Rattle.flow.specs.Output.{output, with_room, FilledWith, LeftAlone}
use Rattle.flow.specs.Records.{RightLength, records_of, most_bytes}
use Rattle.flow.specs.ExactTotals.{opening_count, amount_sum, kind_of}
use Rattle.refusals.specs.Numbers.{number_of}
use Rattle.refusals.specs.declared.Reason.{Reason}
use Rattle.flow.specs.Verdict.{Verdict, Refusal, accepted, refused, verdict, refusal, of_call, on_paper, refused_call}
use Rattle.flow.specs.declared.answer.Refusal.{Refusal as Code-Refusal}
use Rattle.flow.specs.declared.answer.Totals.{Totals}
use Rattle.flow.specs.declared.location.Location.{Location}
use Rattle.flow.specs.declared.location.WithTotals.{WithTotals}

-- number 1 is given exactly where the flow is not one or more whole records, or has more than 9,999,999 of them, and with record 0 and
-- position 0
abbrev pub LengthRefused : Type 0
LengthRefused =
    (f : List ℕ) (r p : ℕ)
    → (judge f ≡ refused (refusal 1 r p)) ↔ ((r ≡ 0) × (p ≡ 0) × ¬ RightLength (length f))

-- so above the ceiling the answer is 1
abbrev pub Ceiling : Type 0
Ceiling = (f : List ℕ) → most_bytes < length f → judge f ≡ refused (of_call 1)

-- an accepted flow is answered its exact totals, summed over its records, and the kind that its first 14 says
abbrev pub AcceptedExact : Type 0
AcceptedExact =
    (f : List ℕ) (t : Totals) → judge f ≡ accepted t
    → (t.dispositions ≡ opening_count (records_of f)) × (t.cents ≡ amount_sum (records_of f)) × (t.records * 120 ≡ length f) × (t.kind ≡ kind_of (records_of f))

-- and each of its records 14 asks for something (document 02, E5)
abbrev pub EachAsks : Type 0
EachAsks = (f : List ℕ) (t : Totals) → judge f ≡ accepted t → All (λ (rec : List ℕ). is_opening rec ≡ true → IsAmount (number (amount_in rec))) (records_of f)

-- a call that fills an output answers what was judged; accepted, it leaves exactly the bytes where they fit, and refused nothing
abbrev pub OutputLeaves : Type 1
OutputLeaves =
    (A : Type 0) (v : Verdict A) (bytes out : List ℕ)
    → ((output v bytes out).answer ≡ v)
    × ((a : A) → v ≡ accepted a → length bytes ≤ length out → FilledWith (output v bytes out) bytes out)
    × ((x : Refusal) → v ≡ refused x → LeftAlone (output v bytes out) out)

-- and where 21 comes last, it is refused for want of room where it would be accepted else
abbrev pub RoomExact : Type 1
RoomExact =
    (A : Type 0) (v : Verdict A) (size room : ℕ)
    → ((a : A) → (with_room v size room ≡ accepted a) ↔ ((v ≡ accepted a) × (size ≤ room)))
    × ((x : Refusal) → (with_room v size room ≡ refused x) ↔ ((v ≡ refused x) ⊎ ((a : A) × (v ≡ accepted a) × (room < size) × (x ≡ of_call 21))))

-- the refusal of a call for a reason is, on paper, that of the reason's number
abbrev pub CallRefused : Type 0
CallRefused = (r : Reason) → on_paper (refused_call r) ≡ of_call (number_of r)

-- what an answer stands for on paper determines it, whatever it gives where it is accepted
abbrev pub VerdictDetermined : Type 1
VerdictDetermined = (A : Type 0) (r s : Result A Code-Refusal) → verdict r ≡ verdict s → r ≡ s

-- that of reading, of finding, and of both
abbrev pub AnswerDetermined : Type 0
AnswerDetermined = (r s : Result Totals Code-Refusal) → verdict r ≡ verdict s → r ≡ s

abbrev pub FoundDetermined : Type 0
FoundDetermined = (r s : Result Location Code-Refusal) → verdict r ≡ verdict s → r ≡ s

abbrev pub FoundWithTotalsDetermined : Type 0
FoundWithTotalsDetermined = (r s : Result WithTotals Code-Refusal) → verdict r ≡ verdict s → r ≡ s

-- a question about disposition k is refused exactly where the flow is, by the same, or by 15 where no disposition has that number
abbrev pub FindRefused : Type 0
FindRefused =
    (f : List ℕ) (k : ℕ) (x : Refusal)
    → (find f k ≡ refused x) ↔ ((judge f ≡ refused x) ⊎ ((t : Totals) × (judge f ≡ accepted t) × ¬ IsNumber k t.dispositions × (x ≡ of_call 15)))

-- finding with the totals gives both answers of an accepted flow, and is refused exactly where the question is
abbrev pub FindWithTotalsExact : Type 0
FindWithTotalsExact =
    (f : List ℕ) (k : ℕ)
    → ((g : WithTotals) → (find_with_totals f k ≡ accepted g) ↔ ((judge f ≡ accepted g.totals) × (find f k ≡ accepted g.location)))
    × ((x : Refusal) → (find_with_totals f k ≡ refused x) ↔ (find f k ≡ refused x))

-- the part of a disposition that is found is the flow's bytes from its first record on, as many as its records have, and ends before the
-- trailer; that of a refusal is at the flow's start
abbrev pub PartPlaced : Type 0
PartPlaced =
    (f : List ℕ) (k : ℕ)
    → ((s : Location) → find f k ≡ accepted s
    → (offset_of f k ≡ 120 * (s.first - 1)) × (part_of f k ≡ part (offset_of f k) (120 * s.records) f) × (offset_of f k + 120 * s.records + 120 ≤ length f))
    × ((x : Refusal) → find f k ≡ refused x → offset_of f k ≡ 0)
