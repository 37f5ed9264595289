-- Fields that have to be digits, and then something more. Assumes nothing.
use Prim.Native.Nat.{ℕ, ◌-◌, ◌≤◌}
use mathlib.Core.List.{List}
use mathlib.Core.Path.{◌≡◌}
use native.Mathlib.Omega.{arith}
use lib.ListN.{length}
use Rattle.sequences.proofs.Part.{part_length}
use Rattle.fields.specs.Digits.{digit_field, digits_from}
use Rattle.fields.proofs.DigitField.{digit_field-sized}
use Rattle.records.specs.Field.{field}
use Rattle.records.specs.FieldTests.{Fits}

-- a field inside the record has its length
pub field-length : (a e : ℕ) (rec : List ℕ) → 1 ≤ a → a ≤ e → e ≤ length rec → length (field a e rec) ≡ e - (a - 1)
field-length a e rec h k l = part_length (a - 1) (e - (a - 1)) rec (omega arith)

-- a digit field of a record is judged by its digits alone
pub field-digits : (a e : ℕ) (rec : List ℕ) → length rec ≡ 120 → Fits a e → digit_field (field a e rec) ≡ digits_from 0 (field a e rec)
field-digits a e rec whole f =
    let starts = f.starts in
    let some = f.some in
    let few = f.few in
    let within = f.within in
    let n = field-length a e rec starts some (omega arith) in
    digit_field-sized (field a e rec) (omega arith) (omega arith)
