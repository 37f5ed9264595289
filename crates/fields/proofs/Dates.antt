-- Six digits as three numbers of two, and as one: laws of `date_field`. Assumes nothing.
use Prim.Native.Nat.{ℕ, ◌+◌, ◌*◌, ◌/◌, ◌%◌, ◌≤◌, ◌<◌}
use mathlib.Core.Path.{◌≡◌, sym, ◌∙◌, ap}
use mathlib.Core.Bool.{true, and-eq-true_iff}
use mathlib.Core.List.{List, ◌++◌}
use native.Mathlib.Omega.{arith}
use lib.ListN.{length, length-append}
use lib.Seq.{take_all}
use borrow.Author.Tests.{eq-eqb}
use Rattle.sequences.specs.Part.{part}
use Rattle.sequences.proofs.Every.{every_append}
use Rattle.sequences.proofs.Part.{part_length, part_join}
use Rattle.fields.specs.FieldVerdict.{accepted, refused}
use Rattle.fields.specs.declared.calendar.Day.{Day}
use Rattle.fields.specs.Date.{day_of, on_calendar, date_field}
use Rattle.fields.specs.Digits.{is_digit, is_digits, number, digit_field}
use Rattle.fields.proofs.Decimal.{number_append, number_below}
use Rattle.fields.proofs.DigitField.{digit_field-accepted, digit_field_no_digits, field-refused}

-- the day that six digits name, read as one number
abbrev pub day_from : ℕ → Day
day_from n = record { day = n / 10000; month = n / 100 % 100; year = 2000 + n % 100 }

module _ (bs : List ℕ) (six : length bs ≡ 6) where
  -- each part has two bytes
  pub two : (a : ℕ) → a + 2 ≤ 6 → length (part a 2 bs) ≡ 2
  two a h = part_length a 2 bs (rw six h)

  -- and the three are the whole
  pub three-parts : bs ≡ part 0 2 bs ++ (part 2 2 bs ++ part 4 2 bs)
  three-parts = sym (take_all 6 bs (omega arith)) ∙ part_join 0 2 4 bs ∙ ap (λ (l : List ℕ). part 0 2 bs ++ l) (part_join 2 2 2 bs)

  pub parts-digits : is_digits bs ≡ true → (is_digits (part 0 2 bs) ≡ true) × (is_digits (part 2 2 bs) ≡ true) × (is_digits (part 4 2 bs) ≡ true)
  parts-digits t =
      let whole : is_digits (part 0 2 bs ++ (part 2 2 bs ++ part 4 2 bs)) ≡ true = sym (ap is_digits three-parts) ∙ t in
      let front = (and-eq-true_iff _ _).0 (sym (every_append is_digit (part 0 2 bs) (part 2 2 bs ++ part 4 2 bs)) ∙ whole) in
      let back = (and-eq-true_iff _ _).0 (sym (every_append is_digit (part 2 2 bs) (part 4 2 bs)) ∙ front.1) in
      (front.0, back.0, back.1)

  -- each number is below 100
  pub small : (a : ℕ) → a + 2 ≤ 6 → is_digits (part a 2 bs) ≡ true → number (part a 2 bs) < 100
  small a h t = rw (two a h) at (number_below (part a 2 bs) t)

  number-parts : number bs ≡ number (part 0 2 bs) * 10000 + (number (part 2 2 bs) * 100 + number (part 4 2 bs))
  number-parts =
      ap number three-parts
      ∙ rw (number_append (part 0 2 bs), number_append (part 2 2 bs), length-append, two 2 (omega arith), two 4 (omega arith))

  pub day_from_number : is_digits bs ≡ true → day_of bs ≡ day_from (number bs)
  day_from_number t =
      let parts = parts-digits t in
      let n = number bs in
      let day : number (part 0 2 bs) ≡ n / 10000 = omega (arith, number-parts, small 2 (omega arith) parts.1, small 4 (omega arith) parts.2) in
      let month : number (part 2 2 bs) ≡ n / 100 % 100 = omega (arith, number-parts, small 2 (omega arith) parts.1, small 4 (omega arith) parts.2) in
      let short : number (part 4 2 bs) ≡ n % 100 = omega (arith, number-parts, small 4 (omega arith) parts.2) in
      cc

  -- digits: the calendar decides
  pub date_field-number : (n : ℕ) → digit_field bs ≡ accepted n → date_field bs ≡ on_calendar (day_from n)
  unfolding date_field
  date_field-number n e =
      let read = digit_field-accepted bs n e in
      rw (eq-eqb (length bs) 6 six, read.2) (ap on_calendar (day_from_number read.2 ∙ ap day_from read.3))

  -- what is no digits is refused alike
  pub date_field-refused : (n : ℕ) → digit_field bs ≡ refused n → date_field bs ≡ refused n
  unfolding date_field
  date_field-refused n e = rw (eq-eqb (length bs) 6 six, digit_field_no_digits bs n (omega arith) (omega arith) e) (ap refused (sym ((field-refused bs n).0 e).0))
