-- What a field rule answers on paper, and what the code's answers stand for there. Assumes nothing.
use Rattle.std.specs.Prelude.{ℕ, Result, Ok, Err}
use Rattle.refusals.specs.Numbers.{number_of}
use Rattle.refusals.specs.declared.Reason.{Reason}

-- accepted with what the field says, or refused; a field's refusal is its number alone (document 01, "Questions and changes", last
-- paragraph)
pub data FieldVerdict (A : Type 0) : Type 0 where
  accepted : A → FieldVerdict A
  refused : ℕ → FieldVerdict A

-- document 01, "Numbers a clerk may see", and document 02, E5: the three that a field alone can give
abbrev pub not_digits : ℕ
not_digits = 5

abbrev pub no_such_day : ℕ
no_such_day = 8

abbrev pub zero_amount : ℕ
zero_amount = 25

-- what the code gives, or the number of its reason
abbrev pub field_verdict : {A : Type 0} → Result A Reason → FieldVerdict A
field_verdict (Ok a) = accepted a
field_verdict (Err r) = refused (number_of r)
