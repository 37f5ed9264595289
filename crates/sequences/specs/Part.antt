-- A part of a list, and a list with a part written over. Positions here count from 0. Assumes nothing.
use Rattle.std.specs.Prelude.{List, ◌++◌, ℕ, ◌+◌, length, take, drop}

-- the n elements of xs from index a on
abbrev pub part : ℕ → ℕ → List ℕ → List ℕ
part a n xs = take n (drop a xs)

-- xs with ys written over its elements from index a on
abbrev pub put : ℕ → List ℕ → List ℕ → List ℕ
put a ys xs = take a xs ++ (ys ++ drop (a + length ys) xs)
