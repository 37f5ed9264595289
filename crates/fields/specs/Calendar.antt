-- The Gregorian calendar, twice: as a test that computes, and as what it means to be a day of it. Assumes nothing.
use Rattle.std.specs.Prelude.{ℕ, ◌+◌, ◌%◌, ◌≤◌, Bool, not, cond, ◌&&◌, ◌||◌, List, [], ◌∷◌, ◌⊎◌, ◌≢◌, ◌≡◌, leb, eqb, get_or}
use Rattle.fields.specs.declared.calendar.Day.{Day}

-- the days of the months of a common year, January at 1; no month is 0 or above 12, and has no day
abbrev pub common_year : List ℕ
common_year = 0 ∷ 31 ∷ 28 ∷ 31 ∷ 30 ∷ 31 ∷ 30 ∷ 31 ∷ 31 ∷ 30 ∷ 31 ∷ 30 ∷ 31 ∷ []

-- every 4th year, not every 100th, but every 400th
unfoldable pub is_leap : ℕ → Bool
is_leap y = (eqb (y % 4) 0 && not (eqb (y % 100) 0)) || eqb (y % 400) 0

unfoldable pub days_in : ℕ → ℕ → ℕ
days_in m y = get_or common_year m 0 + cond (eqb m 2 && is_leap y) 1 0

unfoldable pub is_day : ℕ → ℕ → ℕ → Bool
is_day d m y = leb 1 d && leb d (days_in m y)

-- the same without a test: a day that its month has in every year, or 29 February of a leap year
abbrev pub Leap : ℕ → Type 0
Leap y = ((y % 4 ≡ 0) × (y % 100 ≢ 0)) ⊎ (y % 400 ≡ 0)

abbrev pub EveryYear : Day → Type 0
EveryYear t = (1 ≤ t.day) × (t.day ≤ get_or common_year t.month 0)

abbrev pub LeapDay : Day → Type 0
LeapDay t = (t.day ≡ 29) × (t.month ≡ 2) × Leap t.year

abbrev pub Gregorian : Day → Type 0
Gregorian t = EveryYear t ⊎ LeapDay t
