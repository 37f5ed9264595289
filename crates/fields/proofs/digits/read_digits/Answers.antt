-- `fields::read_digits` meets its contract. What is left of the field, read after value, decides as the whole field does. Assumes nothing.
use Prim.Native.Nat.{ℕ, ◌+◌, ◌*◌, ◌-◌, ◌^◌, ◌≤◌, ◌<◌}
use mathlib.Core.Path.{◌≡◌, sym, ◌∙◌}
use mathlib.Core.Bool.{cond}
use mathlib.Core.List.{List}
use native.Mathlib.Nat.{pow-le-pow_right}
use native.Mathlib.Omega.{arith}
use lib.ListN.{length, drop, get_or}
use Rattle.fields.specs.FieldVerdict.{refused, not_digits}
use Rattle.fields.specs.Digits.{is_digit, digit_field, digits_from}
use Rattle.fields.proofs.Decimal.{digit_more}
use Rattle.fields.proofs.DigitField.{digit_low, digit_high, digit_right, digit_field-empty, digit_field_long, digit_field-sized, digits_from_next, digits_from_end}
use Rattle.fields.proofs.digits.read_digits.Goals as goal
use Rattle.fields.proofs.digits.read_digits.Goals.{then-field-eq0-via-then-field-eq0, then-field-eq0-via-else-field-eq0+then-field-gt-MOST_DIGITS, then-b-lt48-via-then-b-lt48, then-b-lt48-via-else-b-lt48+then-b-gt57}

-- the field decides as its byte at i does, and then the rest
turn :
    (field : List ℕ) (value i : ℕ) → digit_field field ≡ digits_from value (drop i field) → i < length field →
    let byte = get_or field i 0 in digit_field field ≡ cond (is_digit byte) (digits_from (value * 10 + (byte - 48)) (drop (i + 1) field)) (refused not_digits)
turn field value i left inside = left ∙ digits_from_next value field i inside

-- one more digit has room: there are fifteen at the most
room : (value i : ℕ) → value < 10 ^ i → i < 15 → value * 10 + 9 < 10 ^ 15
room value i below early =
    let places : i + 1 ≤ 15 = omega arith in
    omega (arith, digit_more i value 9 below (omega arith), pow-le-pow_right {n = 10} (omega arith) places)

pub returns-then-field-eq0 : goal.returns-then-field-eq0
returns-then-field-eq0 c = elim c.then-field-eq0.branch [
  | then-field-eq0-via-then-field-eq0 w ↦ sym (digit_field-empty _ w.if-field-eq0.true)
  | then-field-eq0-via-else-field-eq0+then-field-gt-MOST_DIGITS w ↦ sym (digit_field_long _ w.if-field-gt-MOST_DIGITS.true)
]

pub loop-b-init : goal.loop-b-init
loop-b-init c = (omega arith, digit_field-sized _ (omega arith) c.if-field-gt-MOST_DIGITS.false)

pub returns-then-b-lt48 : goal.returns-then-b-lt48
returns-then-b-lt48 c = elim c.then-b-lt48.branch [
  | then-b-lt48-via-then-b-lt48 w ↦ rw (turn _ _ _ c.loop-b.invariant.1 c.loop-b-test.true, digit_low _ w.if-b-lt48.true)
  | then-b-lt48-via-else-b-lt48+then-b-gt57 w ↦ rw (turn _ _ _ c.loop-b.invariant.1 c.loop-b-test.true, digit_high _ w.if-b-gt57.true)
]

pub overflow_mul-value : goal.overflow_mul-value
overflow_mul-value c = omega (arith, room c.loop-b.value c.loop-b.b-index c.loop-b.invariant.0 (omega arith))

pub overflow_add-value : goal.overflow_add-value
overflow_add-value c = omega (arith, c.from.ensures, room c.loop-b.value c.loop-b.b-index c.loop-b.invariant.0 (omega arith))

pub loop-b-preserved : goal.loop-b-preserved
loop-b-preserved c =
    let loop = c.loop-b in (
      digit_more loop.b-index loop.value (c.from.result - 48) loop.invariant.0 (omega (arith, c.from.ensures)),
      rw (c.from.ensures, turn _ _ _ loop.invariant.1 c.loop-b-test.true, digit_right _ c.if-b-lt48.false c.if-b-gt57.false),
    )

pub returns : goal.returns
returns c = sym (c.loop-b.invariant.1 ∙ digits_from_end _ _ _ c.loop-b-test.false)
