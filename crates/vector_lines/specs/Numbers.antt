-- Decimal numbers, as the vector files have them. Assumes nothing.
use Rattle.std.specs.Prelude.{ℕ, ◌+◌, ◌*◌, ◌-◌, min, cond, ◌&&◌, List, leb, fold, length, unwrap_or, position, ◌==◌}

-- the largest number of 64 bits
abbrev pub largest : ℕ
largest = 18446744073709551615

-- `0` to `9`; 0 for any other byte
abbrev pub decimal_digit : ℕ → ℕ
decimal_digit b = cond (leb 48 b && leb b 57) (b - 48) 0

-- the number n with the digit of b after it, or the largest one
abbrev pub with_digit : ℕ → ℕ → ℕ
with_digit n b = min largest (10 * n + decimal_digit b)

abbrev pub decimal_number : List ℕ → ℕ
decimal_number bs = fold with_digit 0 bs

-- the index of the first blank: the index after the last byte where there is none
abbrev pub first_blank : List ℕ → ℕ
first_blank bs = unwrap_or (position (λ b. b == 32) bs) (length bs)
