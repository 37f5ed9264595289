-- The Adler-32 checksum. Assumes nothing.
use Rattle.std.specs.Prelude.{ℕ, ◌+◌, ◌*◌, ◌%◌, List, [], ◌∷◌}

-- from the sum of the bytes so far and the sum of these sums, both below the largest prime below 2^16
unfoldable pub adler_from : ℕ → ℕ → List ℕ → ℕ
adler_from low high [] = high * 65536 + low
adler_from low high (b ∷ bs) = adler_from ((low + b) % 65521) ((high + (low + b) % 65521) % 65521) bs

abbrev pub adler32 : List ℕ → ℕ
adler32 bs = adler_from 1 0 bs
