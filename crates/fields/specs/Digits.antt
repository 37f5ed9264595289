-- Digit fields (document 01, "The flow as bytes": "digits" means every byte is 0 to 9). Assumes nothing.
use Rattle.std.specs.Prelude.{ℕ, zero, suc, ◌+◌, ◌-◌, ◌*◌, ◌/◌, ◌%◌, Bool, cond, not, ◌&&◌, List, [], ◌∷◌, ◌++◌, leb, eqb, length}
use Rattle.sequences.specs.Every.{every}
use Rattle.fields.specs.FieldVerdict.{FieldVerdict, accepted, refused, not_digits}

abbrev pub is_digit : ℕ → Bool
is_digit b = leb 48 b && leb b 57

abbrev pub is_digits : List ℕ → Bool
is_digits bs = every is_digit bs

-- the number that the digits bs give after a number v that was read before them
unfoldable pub number_from : ℕ → List ℕ → ℕ
number_from v [] = v
number_from v (b ∷ bs) = number_from (v * 10 + (b - 48)) bs

abbrev pub number : List ℕ → ℕ
number bs = number_from 0 bs

-- "above zero"
abbrev pub is_above_zero : ℕ → Bool
is_above_zero v = not (eqb v 0)

-- the n low decimal digits of v, zeros in front
unfoldable pub digits : ℕ → ℕ → List ℕ
digits zero v = []
digits (suc n) v = digits n (v / 10) ++ ((48 + v % 10) ∷ [])

-- the answer of a digit field once its length is right
abbrev pub digits_from : ℕ → List ℕ → FieldVerdict ℕ
digits_from v bs = cond (is_digits bs) (accepted (number_from v bs)) (refused not_digits)

-- a digit field of 1 to 15 bytes gives its number, anything else 5
unfoldable pub digit_field : List ℕ → FieldVerdict ℕ
digit_field bs = cond (leb 1 (length bs) && leb (length bs) 15) (digits_from 0 bs) (refused not_digits)
