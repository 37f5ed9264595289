-- The place of a disposition's amount, in the record that opens it (document 01, table of checks, row 14: 34-46 digits, the amount in
-- cents; above zero by document 02, E5). Assumes nothing.
use Rattle.std.specs.Prelude.{ℕ, List, ◌≡◌}
use Rattle.fields.specs.Amount.{amount_field}
use Rattle.fields.specs.FieldVerdict.{accepted}
use Rattle.fields.specs.Digits.{number}
use Rattle.records.specs.Field.{Span, ◌to◌, field_at}

-- its positions
abbrev pub amount_span : Span
amount_span = 34 to 46

-- and what stands there
abbrev pub amount_in : List ℕ → List ℕ
amount_in rec = field_at amount_span rec

-- for the contract of a private function: it is an amount, and its number is the disposition's
abbrev pub HasAmount : List ℕ → Type 0
HasAmount rec = amount_field (amount_in rec) ≡ accepted (number (amount_in rec))
