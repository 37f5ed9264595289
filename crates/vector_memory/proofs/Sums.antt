-- Laws of `adler_from`, for a loop over i: the byte at i, then the rest; and past the end the sums are all. Assumes nothing.
use Prim.Native.Nat.{ℕ, ◌+◌, ◌*◌, ◌%◌, ◌≤◌, ◌<◌}
use mathlib.Core.Path.{◌≡◌}
use mathlib.Core.List.{List}
use lib.ListN.{length, drop, get_or, drop_of_length-le}
use Rattle.sequences.proofs.Drop.{drop_next}
use Rattle.vector_memory.specs.Checksum.{adler_from}

pub adler_next : (xs : List ℕ) (i low high : ℕ) → i < length xs → adler_from low high (drop i xs) ≡ adler_from ((low + get_or xs i 0) % 65521) ((high + (low + get_or xs i 0) % 65521) % 65521) (drop (i + 1) xs)
unfolding adler_from
adler_next xs i low high h = rw (drop_next xs i h)

pub adler_past : (xs : List ℕ) (i low high : ℕ) → length xs ≤ i → adler_from low high (drop i xs) ≡ high * 65536 + low
unfolding adler_from
adler_past xs i low high h = rw (drop_of_length-le xs h)
