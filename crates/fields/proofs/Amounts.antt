-- The amount rule: laws of `amount_field` and of the test `is_amount`. Assumes nothing.
use Prim.Native.Nat.{ℕ, ◌^◌, ◌≤◌, ◌<◌}
use mathlib.Core.Path.{◌≡◌, refl, sym, ◌∙◌, ap, subst}
use mathlib.Core.Bool.{Bool, true, false, and-eq-true_iff, and-true, true≢false}
use mathlib.Core.List.{List}
use mathlib.Core.Logic.{◌↔◌}
use native.Mathlib.Omega.{arith}
use lib.Dec.{leb, eqb}
use lib.ListN.{length}
use borrow.Author.Tests.{leb-true, le-leb, eqb-true, eqb-false, eq-eqb, ne_eqb, not-true, not-false}
use Rattle.fields.specs.Amount.{most_amount, IsAmount, is_amount, asked_for, amount_field}
use Rattle.fields.specs.FieldVerdict.{accepted, refused, zero_amount}
use Rattle.fields.specs.Digits.{number, is_above_zero, digits, digit_field}
use Rattle.fields.specs.Laws.{DigitsOf, AmountExact, AmountTested, AmountRefused}
use Rattle.fields.proofs.Decimal.{number_below, written-length, written-digits, written_read_fits, read-written}
use Rattle.fields.proofs.DigitField.{digit_field-accepted, digit_field_no_digits, field-refused}
use Rattle.fields.proofs.FixedSize.{digits_tested, fixed_accepted, fixed_refused}

-- above zero, as a test and as it is said
pub above_zero : (v : ℕ) → (is_above_zero v ≡ true) ↔ (1 ≤ v)
above_zero v = (λ t. let some = eqb-false v 0 (not-true (eqb v 0) t) in omega arith, λ some. rw (ne_eqb v 0 (λ none. omega arith)))

zero-said : (v : ℕ) → is_above_zero v ≡ false → v ≡ 0
zero-said v t = eqb-true v 0 (not-false (eqb v 0) t)

above_not_zero : (v : ℕ) → 1 ≤ v → v ≡ 0 → ⊥
above_not_zero v some none = omega arith

-- so of an amount
pub amount_test : (v : ℕ) → (is_amount v ≡ true) ↔ IsAmount v
amount_test v =
    let both = and-eq-true_iff (is_above_zero v) (leb v most_amount) in
    (λ t. ((above_zero v).0 (both.0 t).0, leb-true v most_amount (both.0 t).1), λ a. both.1 ((above_zero v).1 a.0, le-leb v most_amount a.1))

pub no_amount : (v : ℕ) → (is_amount v ≡ false) ↔ (¬ IsAmount v)
no_amount v = (λ f a. true≢false (sym ((amount_test v).1 a) ∙ f), λ n. not_so (is_amount v) refl n)
  where
    not_so : (b : Bool) → is_amount v ≡ b → ¬ IsAmount v → b ≡ false
    not_so true t n = absurd (n ((amount_test v).0 t))
    not_so false t n = refl

-- thirteen digits are no more than the most, so that they are an amount where they are above zero
thirteen_fit : (bs : List ℕ) → DigitsOf 13 bs → is_amount (number bs) ≡ is_above_zero (number bs)
thirteen_fit bs d =
    let below : number bs < 10 ^ 13 = rw d.0 at (number_below bs d.1) in
    let within : number bs ≤ most_amount = omega arith in
    rw (le-leb (number bs) most_amount within, and-true)

module _ (bs : List ℕ) (thirteen : length bs ≡ 13) where
  -- digits: whether they are an amount decides
  pub amount_field-number : (n : ℕ) → digit_field bs ≡ accepted n → amount_field bs ≡ asked_for n
  unfolding amount_field
  amount_field-number n e =
      let read = digit_field-accepted bs n e in
      rw (digits_tested 13 bs (thirteen, read.2)) (ap asked_for read.3)

  pub amount_decided : (n : ℕ) → digit_field bs ≡ accepted n → is_amount n ≡ is_above_zero n
  amount_decided n e =
      let read = digit_field-accepted bs n e in
      rw read.3 at (thirteen_fit bs (thirteen, read.2))

  -- what is no digits is refused alike
  pub amount_field-refused : (n : ℕ) → digit_field bs ≡ refused n → amount_field bs ≡ refused n
  unfolding amount_field
  amount_field-refused n e = rw (eq-eqb (length bs) 13 thirteen, digit_field_no_digits bs n (omega arith) (omega arith) e) (ap refused (sym ((field-refused bs n).0 e).0))

pub amount_exact : AmountExact
unfolding amount_field
amount_exact bs v = (read, write)
  where
    read : amount_field bs ≡ accepted v → (0 < v) × (v < 10 ^ 13) × (bs ≡ digits 13 v)
    read e =
        let (d, some, same) = fixed_accepted 13 bs (is_above_zero (number bs)) (number bs) zero_amount (above_zero (number bs)).0 (zero-said (number bs)) (above_not_zero (number bs)) v e in
        let bytes : digits 13 (number bs) ≡ bs = rw d.0 at (read-written bs d.1) in
        let below : number bs < 10 ^ 13 = rw d.0 at (number_below bs d.1) in
        (subst (λ (n : ℕ). 0 < n) same some, subst (λ (n : ℕ). n < 10 ^ 13) same below, sym bytes ∙ ap (digits 13) same)

    write : (0 < v) × (v < 10 ^ 13) × (bs ≡ digits 13 v) → amount_field bs ≡ accepted v
    write h = rw (h.2, digits_tested 13 (digits 13 v) (written-length 13 v, written-digits 13 v), written_read_fits 13 v h.1, (above_zero v).1 h.0)

pub amount-written : (v : ℕ) → IsAmount v → amount_field (digits 13 v) ≡ accepted v
amount-written v a = let small = a.1 in (amount_exact (digits 13 v) v).1 (a.0, omega arith, refl)

pub amount_given : (bs : List ℕ) (v : ℕ) → amount_field bs ≡ accepted v → IsAmount v
amount_given bs v e =
    let h = (amount_exact bs v).0 e in
    let below = h.1 in
    (h.0, omega arith)

pub amount_tested : AmountTested
amount_tested v = (λ t. (digits 13 v, amount-written v ((amount_test v).0 t)), λ (bs, e). (amount_test v).1 (amount_given bs v e))

pub amount-refused : AmountRefused
unfolding amount_field
amount-refused bs = fixed_refused 13 bs (is_above_zero (number bs)) (number bs) zero_amount (above_zero (number bs)).0 (zero-said (number bs)) (above_not_zero (number bs))
