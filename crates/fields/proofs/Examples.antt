-- The worked examples, by computation. Assumes nothing.
use mathlib.Core.Path.{refl}
use Rattle.fields.specs.Amount.{amount_field}
use Rattle.fields.specs.Calendar.{is_leap, days_in, is_day}
use Rattle.fields.specs.Date.{date_field}
use Rattle.fields.specs.Digits.{number_from, digits, digit_field}
use Rattle.fields.specs.Examples.{months_days, years_days, FieldExamples}

pub examples : FieldExamples
unfolding amount_field date_field digit_field digits number_from is_day days_in is_leap months_days years_days
examples =
    record {
      leap_day = refl;
      no_leap_day = refl;
      century = refl;
      day-zero = refl;
      blank_date = refl;
      century_days = refl;
      total = refl;
      total_read = refl;
      no_byte = refl;
      too_long = refl;
      rent = refl;
      short-amount = refl;
      zero-amount = refl;
      least-amount = refl;
      short-zero = refl;
      blank_amount = refl;
    }
