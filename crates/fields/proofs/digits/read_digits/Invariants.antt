-- `fields::read_digits` meets its contract. What is left of the field, read after value, decides as the whole field does. Assumes nothing.
use Prim.Native.Nat.{◌^◌, ◌<◌}
use mathlib.Core.Path.{◌≡◌}
use lib.ListN.{drop}
use Rattle.fields.specs.Digits.{digit_field, digits_from}
use Rattle.fields.proofs.digits.read_digits.Given as goal

abbrev pub invariant-loop-b : goal.invariant-loop-b
invariant-loop-b l = (l.value < 10 ^ l.b-index) × (digit_field l.field ≡ digits_from l.value (drop l.b-index l.field))
