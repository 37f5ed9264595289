-- What is proved of the field rules: each law once, over the field's length. `proofs/` has its proof under the law's name in small
-- letters. Assumes nothing.
use Rattle.std.specs.Prelude.{ℕ, ◌%◌, ◌^◌, ◌≤◌, ◌<◌, ◌≡◌, true, List, ◌↔◌, ◌⊎◌, length, replicate, Result}
use Rattle.fields.specs.Amount.{is_amount, amount_field}
use Rattle.fields.specs.FieldVerdict.{accepted, refused, field_verdict}
use Rattle.fields.specs.Bytes.{is_blank, is_equal}
use Rattle.fields.specs.Calendar.{Gregorian}
use Rattle.fields.specs.Date.{day_of, date_field, date_digits}
use Rattle.fields.specs.Digits.{is_digits, number, digits, digit_field}
use Rattle.refusals.specs.declared.Reason.{Reason}
use Rattle.fields.specs.declared.calendar.Day.{Day}

-- the number of n digits is below 10 ^ n
abbrev pub NumberBelow : Type 0
NumberBelow = (bs : List ℕ) → is_digits bs ≡ true → number bs < 10 ^ length bs

-- what is written has its length
abbrev pub WrittenLength : Type 0
WrittenLength = (n v : ℕ) → length (digits n v) ≡ n

-- and is all digits
abbrev pub WrittenDigits : Type 0
WrittenDigits = (n v : ℕ) → is_digits (digits n v) ≡ true

-- written, then read: the number, less the digits that did not fit
abbrev pub WrittenRead : Type 0
WrittenRead = (n v : ℕ) → number (digits n v) ≡ v % 10 ^ n

-- read, then written: the bytes
abbrev pub ReadWritten : Type 0
ReadWritten = (bs : List ℕ) → is_digits bs ≡ true → digits (length bs) (number bs) ≡ bs

-- a digit field gives v exactly where it is v written in its 1 to 15 bytes
abbrev pub FieldExact : Type 0
FieldExact =
    (bs : List ℕ) (v : ℕ) → (digit_field bs ≡ accepted v) ↔ ((1 ≤ length bs) × (length bs ≤ 15) × (v < 10 ^ length bs) × (bs ≡ digits (length bs) v))

-- an amount gives v exactly where v is above zero and the bytes are v written in thirteen
abbrev pub AmountExact : Type 0
AmountExact = (bs : List ℕ) (v : ℕ) → (amount_field bs ≡ accepted v) ↔ ((0 < v) × (v < 10 ^ 13) × (bs ≡ digits 13 v))

-- the test of a number of cents, for who has no field yet, takes exactly those that the field's rule gives
abbrev pub AmountTested : Type 0
AmountTested = (v : ℕ) → (is_amount v ≡ true) ↔ ((bs : List ℕ) × (amount_field bs ≡ accepted v))

-- a date gives t exactly where t is a day of the Gregorian calendar from 1 January 2000 to 31 December 2099, written as GGMMAA
abbrev pub DateExact : Type 0
DateExact =
    (bs : List ℕ) (t : Day) → (date_field bs ≡ accepted t) ↔ (Gregorian t × (2000 ≤ t.year) × (t.year ≤ 2099) × (bs ≡ date_digits t))

-- what is refused, and by which number. A digit field: 5, where it is not 1 to 15 digits
abbrev pub FieldRefused : Type 0
FieldRefused =
    (bs : List ℕ) (n : ℕ) → (digit_field bs ≡ refused n) ↔ ((n ≡ 5) × ¬ ((1 ≤ length bs) × (length bs ≤ 15) × (is_digits bs ≡ true)))

abbrev pub DigitsOf : ℕ → List ℕ → Type 0
DigitsOf size bs = (length bs ≡ size) × (is_digits bs ≡ true)

-- an amount: 5, where it is not thirteen digits; else 25, where they say zero
abbrev pub AmountRefused : Type 0
AmountRefused = (bs : List ℕ) (n : ℕ) → (amount_field bs ≡ refused n) ↔ (((n ≡ 5) × ¬ DigitsOf 13 bs) ⊎ ((n ≡ 25) × DigitsOf 13 bs × (number bs ≡ 0)))

-- a date: 5, where it is not six digits; else 8, where the day that they name is none of the calendar
abbrev pub DateRefused : Type 0
DateRefused =
    (bs : List ℕ) (n : ℕ) → (date_field bs ≡ refused n) ↔ (((n ≡ 5) × ¬ DigitsOf 6 bs) ⊎ ((n ≡ 8) × DigitsOf 6 bs × ¬ Gregorian (day_of bs)))

-- equal slices are equal lists
abbrev pub EqualExact : Type 0
EqualExact = (xs ys : List ℕ) → (is_equal xs ys ≡ true) ↔ (xs ≡ ys)

-- a blank field is blanks, as many as it has bytes
abbrev pub BlankExact : Type 0
BlankExact = (bs : List ℕ) → (is_blank bs ≡ true) ↔ (bs ≡ replicate (length bs) 32)

-- what an answer stands for on paper determines it, whatever it gives where it is accepted: a contract that gives the one gives the other
abbrev pub FieldDetermined : Type 1
FieldDetermined = (A : Type 0) (r s : Result A Reason) → field_verdict r ≡ field_verdict s → r ≡ s

-- that of a digit field or an amount, and that of a date
abbrev pub NumberDetermined : Type 0
NumberDetermined = (r s : Result ℕ Reason) → field_verdict r ≡ field_verdict s → r ≡ s

abbrev pub DateDetermined : Type 0
DateDetermined = (r s : Result Day Reason) → field_verdict r ≡ field_verdict s → r ≡ s
