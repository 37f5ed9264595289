-- What the rules find of a record, and how a list of checks decides it. Assumes nothing.
use Rattle.std.specs.Prelude.{ℕ, Bool, true, false, cond, ◌&&◌, ◌||◌, List, [], ◌∷◌, ◌++◌, ◌≡◌, ltb, eqb, Result, Ok, Err}
use Rattle.refusals.specs.Numbers.{number_of}
use Rattle.refusals.specs.declared.Reason.{Reason}
use Rattle.records.specs.declared.judged.Fault.{Fault}
use Rattle.records.specs.declared.judged.Record.{Record}
use Rattle.records.specs.declared.kind.RecordKind.{RecordKind}

-- right, with the record's kind and the cents that it asks for; or refused, with number and position (document 01, "Numbers a clerk
-- may see")
pub data RecordVerdict : Type 0 where
  right : RecordKind → ℕ → RecordVerdict
  refused : ℕ → ℕ → RecordVerdict

-- a row of the table: what must hold, and the number and the position of the refusal where it does not
pub data Check : Type 0 where
  check : Bool → ℕ → ℕ → Check

-- the first check that fails refuses; where none does, the rest decides
unfoldable pub first_fault : List Check → RecordVerdict → RecordVerdict
first_fault [] rest = rest
first_fault (check holds n p ∷ cs) rest = cond holds (first_fault cs rest) (refused n p)

-- each check of the list holds
abbrev pub Hold : List Check → Type 0
Hold [] = Unit
Hold (check holds n p ∷ cs) = (holds ≡ true) × Hold cs

-- a check of the list fails, which has this number and position, and those before it hold
abbrev pub FirstBroken : List Check → ℕ → ℕ → Type 0
FirstBroken cs n p = (held others : List Check) × (cs ≡ held ++ (check false n p ∷ others)) × Hold held

-- a check with number n at position p may stand before one with number m at position q: by rising position, and for one field by rising
-- number: 5 comes before what compares the digits, and 6 before 22
abbrev pub precedes : ℕ → ℕ → ℕ → ℕ → Bool
precedes n p m q = ltb p q || (eqb p q && ltb n m)

-- the checks stand in the order of document 01
unfoldable pub in_order : List Check → Bool
in_order [] = true
in_order (check holds n p ∷ []) = true
in_order (check holds n p ∷ check holds' m q ∷ cs) = precedes n p m q && in_order (check holds' m q ∷ cs)

-- the checks at a position, in their order
unfoldable pub checks_at : ℕ → List Check → List Check
checks_at p [] = []
checks_at p (check holds n q ∷ cs) = cond (eqb q p) (check holds n q ∷ checks_at p cs) (checks_at p cs)

-- what the code gives of a right record, or the number of its reason and the position
abbrev pub judged_verdict : Result Record Fault → RecordVerdict
judged_verdict (Ok r) = right r.kind r.cents
judged_verdict (Err f) = refused (number_of f.reason) f.position

-- for the contracts of private functions: a fault, and the answer of a field's rule as that of the field at a position
abbrev pub fault : Reason → ℕ → Fault
fault r p = record { reason = r; position = p }

abbrev pub placed : {A : Type 0} → ℕ → Result A Reason → Result A Fault
placed p (Ok a) = Ok a
placed p (Err r) = Err (fault r p)

-- and what the code gives that has made these checks: it goes on where each holds, and else it ends with the first that fails, whatever
-- comes after them
abbrev pub Settles : {A : Type 0} → Result A Fault → List Check → Type 0
Settles (Ok a) cs = Hold cs
Settles (Err f) cs = (rest : RecordVerdict) → first_fault cs rest ≡ refused (number_of f.reason) f.position
