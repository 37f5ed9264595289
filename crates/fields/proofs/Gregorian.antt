-- The date rule accepts exactly the days of the Gregorian calendar from 1 January 2000 to 31 December 2099, and refuses what is not six
-- digits by 5 and other six digits by 8. Assumes nothing.
use Prim.Native.Nat.{ℕ, ◌+◌, ◌-◌, ◌%◌, ◌^◌, ◌≤◌, ◌<◌}
use mathlib.Core.Path.{◌≡◌, refl, sym, ◌∙◌, ap, subst}
use mathlib.Core.Bool.{Bool, true, false, not, cond, ◌&&◌, ◌||◌, and-eq-true_iff, or-true, true≢false}
use mathlib.Core.List.{List, ◌++◌}
use mathlib.Core.Logic.{◌⊎◌, inl, inr, ⊎_elim}
use native.Mathlib.Nat.{le_of_suc-le-suc, eq-or-lt_of_le}
use native.Mathlib.Decide.{dec_lt}
use native.Mathlib.Omega.{arith}
use lib.Dec.{leb, eqb}
use lib.ListN.{length, get_or, length-append, get_or-eq_default}
use borrow.Author.Tests.{leb-true, le-leb, eqb-true, eqb-false, eq-eqb, ne_eqb, not-true}
use Rattle.sequences.specs.Part.{part}
use Rattle.sequences.proofs.Below.{below}
use Rattle.sequences.proofs.Every.{every_append}
use Rattle.fields.specs.FieldVerdict.{accepted, no_such_day}
use Rattle.fields.specs.Calendar.{common_year, is_leap, days_in, is_day, Leap, Gregorian}
use Rattle.fields.specs.declared.calendar.Day.{Day}
use Rattle.fields.specs.Date.{day_of, on_calendar, date_field, date_digits}
use Rattle.fields.specs.Digits.{is_digits, number, digits}
use Rattle.fields.specs.Laws.{DateExact, DateRefused}
use Rattle.fields.proofs.Dates.{two, three-parts, parts-digits, small}
use Rattle.fields.proofs.Decimal.{written-length, written-digits, written_read_fits, read-written}
use Rattle.fields.proofs.FixedSize.{fixed_accepted, fixed_refused}

-- the leap rule as a test and as it is said
leap_said : (y : ℕ) → is_leap y ≡ true → Leap y
unfolding is_leap
leap_said y e = ⊎_elim (λ h. inl (common h)) (λ h. inr (eqb-true (y % 400) 0 h)) (either (eqb (y % 4) 0 && not (eqb (y % 100) 0)) (eqb (y % 400) 0) e)
  where
    either : (a b : Bool) → (a || b) ≡ true → (a ≡ true) ⊎ (b ≡ true)
    either true b h = inl h
    either false b h = inr h

    common : (eqb (y % 4) 0 && not (eqb (y % 100) 0)) ≡ true → (y % 4 ≡ 0) × ((y % 100 ≡ 0) → ⊥)
    common h =
        let both = (and-eq-true_iff (eqb (y % 4) 0) (not (eqb (y % 100) 0))).0 h in
        (eqb-true (y % 4) 0 both.0, eqb-false (y % 100) 0 (not-true (eqb (y % 100) 0) both.1))

leap_tested : (y : ℕ) → Leap y → is_leap y ≡ true
unfolding is_leap
leap_tested y (inl h) = rw (eq-eqb (y % 4) 0 h.0, ne_eqb (y % 100) 0 h.1)
leap_tested y (inr h) = rw (eq-eqb (y % 400) 0 h, or-true)

-- a day as a test and as it is said
pub day-said : (t : Day) → is_day t.day t.month t.year ≡ true → Gregorian t
unfolding is_day days_in
day-said t e =
    let both = (and-eq-true_iff (leb 1 t.day) (leb t.day (days_in t.month t.year))).0 e in
    go (eqb t.month 2 && is_leap t.year) refl (leb-true _ _ both.0) (leb-true _ _ both.1)
  where
    go : (b : Bool) → (eqb t.month 2 && is_leap t.year) ≡ b → 1 ≤ t.day → t.day ≤ get_or common_year t.month 0 + cond b 1 0 → Gregorian t
    go true h first last =
        let both = (and-eq-true_iff (eqb t.month 2) (is_leap t.year)).0 h in
        let february = eqb-true t.month 2 both.0 in
        let within : t.day ≤ 29 = rw february at last in
        ⊎_elim (λ e. inr (e, february, leap_said t.year both.1)) (λ l. inl (first, rw february (le_of_suc-le-suc l))) (eq-or-lt_of_le within)
    go false h first last = inl (first, omega arith)

pub day_tested : (t : Day) → Gregorian t → is_day t.day t.month t.year ≡ true
unfolding is_day days_in
day_tested t (inl h) =
    let within : t.day ≤ days_in t.month t.year = omega arith in
    rw (le-leb 1 t.day h.0, le-leb t.day (days_in t.month t.year) within)
day_tested t (inr h) = rw (h.0, h.1, leap_tested t.year h.2)

-- a month that has a day is one of the twelve, and has at most 31
month-few : (d m : ℕ) → 1 ≤ d → d ≤ get_or common_year m 0 → (m ≤ 12) × (d ≤ 31)
month-few d m first last = go (dec_lt m 13)
  where
    go : Dec (m < 13) → (m ≤ 12) × (d ≤ 31)
    go (yes h) = (omega arith, omega (arith, leb-true (get_or common_year m 0) 31 (below 13 (λ k. leb (get_or common_year k 0) 31) refl m h)))
    go (no h) =
        let past : length common_year ≤ m = omega arith in
        absurd (omega (arith, get_or-eq_default common_year 0 past))

-- so its numbers have two digits each
two_digits : (t : Day) → Gregorian t → (t.day < 10 ^ 2) × (t.month < 10 ^ 2)
two_digits t (inl h) = omega (arith, month-few t.day t.month h.0 h.1)
two_digits t (inr h) = omega arith

-- a day's six digits, read back
module _ (t : Day) (g : Gregorian t) (from : 2000 ≤ t.year) (to : t.year ≤ 2099) where
  written-six : length (date_digits t) ≡ 6
  written-six = rw (length-append, length-append, written-length 2 t.day, written-length 2 t.month, written-length 2 (t.year - 2000))

  written_all : is_digits (date_digits t) ≡ true
  written_all = rw (every_append, every_append, written-digits 2 t.day, written-digits 2 t.month, written-digits 2 (t.year - 2000))

  written-day : day_of (date_digits t) ≡ t
  unfolding digits
  written-day =
      let days = two_digits t g in
      let day : number (digits 2 t.day) ≡ t.day = written_read_fits 2 t.day days.0 in
      let month : number (digits 2 t.month) ≡ t.month = written_read_fits 2 t.month days.1 in
      let year : 2000 + number (digits 2 (t.year - 2000)) ≡ t.year = omega (arith, written_read_fits 2 (t.year - 2000) (omega arith)) in
      λ i. record { day = day i; month = month i; year = year i }

  date-written : date_field (date_digits t) ≡ accepted t
  unfolding date_field
  date-written = rw (written-six, written_all) (ap on_calendar written-day ∙ rw (day_tested t g))

-- what the rule accepts is a day's six digits
module _ (bs : List ℕ) (six : length bs ≡ 6) (all : is_digits bs ≡ true) where
  written-part : (a : ℕ) → a + 2 ≤ 6 → is_digits (part a 2 bs) ≡ true → part a 2 bs ≡ digits 2 (number (part a 2 bs))
  written-part a h t = sym (rw (two bs six a h) at (read-written (part a 2 bs) t))

  named : (2000 ≤ (day_of bs).year) × ((day_of bs).year ≤ 2099) × (bs ≡ date_digits (day_of bs))
  named =
      let parts = parts-digits bs six all in
      let short : 2000 + number (part 4 2 bs) - 2000 ≡ number (part 4 2 bs) = omega arith in
      (omega arith, omega (arith, small bs six 4 (omega arith) parts.2), three-parts bs six ∙ rw short (ap₃ (written-part 0 (omega arith) parts.0) (written-part 2 (omega arith) parts.1) (written-part 4 (omega arith) parts.2)))
    where
      ap₃ : {a b c d e f : List ℕ} → a ≡ b → c ≡ d → e ≡ f → a ++ (c ++ e) ≡ b ++ (d ++ f)
      ap₃ p q r = cc

-- the calendar's part of the rule, as the law of fields of a fixed size asks for it
module _ (bs : List ℕ) where
  abbrev own_day : Bool
  own_day = is_day (day_of bs).day (day_of bs).month (day_of bs).year

  no_day : own_day ≡ false → ¬ Gregorian (day_of bs)
  no_day f g = true≢false (sym (day_tested (day_of bs) g) ∙ f)

  date_read : (t : Day) → date_field bs ≡ accepted t → Gregorian t × (2000 ≤ t.year) × (t.year ≤ 2099) × (bs ≡ date_digits t)
  unfolding date_field
  date_read t f =
      let (d, g, same) = fixed_accepted 6 bs own_day (day_of bs) no_such_day (day-said (day_of bs)) no_day (λ g f. f g) t f in
      let n = named bs d.0 d.1 in
      subst (λ (u : Day). Gregorian u × (2000 ≤ u.year) × (u.year ≤ 2099) × (bs ≡ date_digits u)) same (g, n.0, n.1, n.2)

pub date_exact : DateExact
date_exact bs t = (date_read bs t, λ h. rw h.3 (date-written t h.0 h.1 h.2))

pub date-refused : DateRefused
unfolding date_field
date-refused bs = fixed_refused 6 bs (own_day bs) (day_of bs) no_such_day (day-said (day_of bs)) (no_day bs) (λ g f. f g)
