-- Amounts (document 01, table of checks, row 14: 34-46 digits, the amount in cents; document 02, E5: above zero). Assumes nothing.
use Rattle.std.specs.Prelude.{ℕ, ◌≤◌, Bool, cond, ◌&&◌, List, leb, eqb, length}
use Rattle.fields.specs.FieldVerdict.{FieldVerdict, accepted, refused, not_digits, zero_amount}
use Rattle.fields.specs.Digits.{is_digits, number, is_above_zero}

-- the most cents that thirteen digits hold
abbrev pub most_amount : ℕ
most_amount = 9999999999999

-- the cents that may be asked for
abbrev pub IsAmount : ℕ → Type 0
IsAmount v = (1 ≤ v) × (v ≤ most_amount)

-- as a test; `AmountTested` holds it against the rule of the field
abbrev pub is_amount : ℕ → Bool
is_amount v = is_above_zero v && leb v most_amount

-- the cents where they are above zero, else 25
abbrev pub asked_for : ℕ → FieldVerdict ℕ
asked_for v = cond (is_above_zero v) (accepted v) (refused zero_amount)

-- thirteen digits, else 5; above zero, else 25
unfoldable pub amount_field : List ℕ → FieldVerdict ℕ
amount_field bs = cond (eqb (length bs) 13 && is_digits bs) (asked_for (number bs)) (refused not_digits)
