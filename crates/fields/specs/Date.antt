-- Dates (document 01, "The flow as bytes": GGMMAA, year 2000+AA, true calendar days). Assumes nothing.
use Rattle.std.specs.Prelude.{ℕ, ◌+◌, ◌-◌, cond, ◌&&◌, List, ◌++◌, eqb, length}
use Rattle.sequences.specs.Part.{part}
use Rattle.fields.specs.FieldVerdict.{FieldVerdict, accepted, refused, not_digits, no_such_day}
use Rattle.fields.specs.Calendar.{is_day}
use Rattle.fields.specs.declared.calendar.Day.{Day}
use Rattle.fields.specs.Digits.{is_digits, number, digits}

-- the day that GGMMAA names
abbrev pub day_of : List ℕ → Day
day_of bs = record { day = number (part 0 2 bs); month = number (part 2 2 bs); year = 2000 + number (part 4 2 bs) }

-- the day where the calendar has it, else 8
abbrev pub on_calendar : Day → FieldVerdict Day
on_calendar t = cond (is_day t.day t.month t.year) (accepted t) (refused no_such_day)

-- six digits, else 5; a day of the calendar, else 8
unfoldable pub date_field : List ℕ → FieldVerdict Day
date_field bs = cond (eqb (length bs) 6 && is_digits bs) (on_calendar (day_of bs)) (refused not_digits)

-- a day of this century's calendar as GGMMAA
abbrev pub date_digits : Day → List ℕ
date_digits t = digits 2 t.day ++ (digits 2 t.month ++ digits 2 (t.year - 2000))
