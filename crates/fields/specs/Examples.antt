-- Worked examples of document 01 that concern a field alone, and others beside them, as equations that compute. Assumes nothing.
use Rattle.std.specs.Prelude.{ℕ, zero, suc, ◌+◌, ◌≡◌, []}
use Rattle.sequences.specs.Text.{text}
use Rattle.fields.specs.Amount.{amount_field}
use Rattle.fields.specs.FieldVerdict.{accepted, refused}
use Rattle.fields.specs.Calendar.{days_in}
use Rattle.fields.specs.Date.{date_field}
use Rattle.fields.specs.Digits.{digits, digit_field}

-- the days of the first m months of the year y, and of n years from 2000 on
unfoldable pub months_days : ℕ → ℕ → ℕ
months_days zero y = 0
months_days (suc m) y = days_in (suc m) y + months_days m y

unfoldable pub years_days : ℕ → ℕ
years_days zero = 0
years_days (suc n) = months_days 12 (2000 + n) + years_days n

pub record FieldExamples : Type 0 where
  -- document 01, example 7: 29 February of 2028, and of 2027
  pub leap_day : date_field (text "290228") ≡ accepted (record { day = 29; month = 2; year = 2028 })
  pub no_leap_day : date_field (text "290227") ≡ refused 8
  pub century : date_field (text "290200") ≡ accepted (record { day = 29; month = 2; year = 2000 })
  pub day-zero : date_field (text "000126") ≡ refused 8
  pub blank_date : date_field (text "      ") ≡ refused 5
  -- the calendar has as many days from 2000 to 2099 as the program finds dates among all strings of six digits
  pub century_days : years_days 100 ≡ 36525
  -- the total of the two-rent example, in the trailer's fifteen digits
  pub total : digits 15 83050 ≡ text "000000000083050"
  pub total_read : digit_field (text "000000000083050") ≡ accepted 83050
  pub no_byte : digit_field [] ≡ refused 5
  pub too_long : digit_field (text "0000000000083050") ≡ refused 5
  pub rent : amount_field (text "0000000045000") ≡ accepted 45000
  pub short-amount : amount_field (text "000000045000") ≡ refused 5
  -- document 02, E5: nothing is asked for; the least that is; and 5 comes before 25
  pub zero-amount : amount_field (text "0000000000000") ≡ refused 25
  pub least-amount : amount_field (text "0000000000001") ≡ accepted 1
  pub short-zero : amount_field (text "000000000000") ≡ refused 5
  pub blank_amount : amount_field (text "             ") ≡ refused 5
