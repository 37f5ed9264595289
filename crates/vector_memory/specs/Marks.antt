-- Marks in memory: an element for each index. Assumes nothing.
use Rattle.std.specs.Prelude.{ℕ, suc, ◌+◌, ◌%◌, Bool, cond, Option, Some, None, List, [], ◌∷◌, ◌++◌, take, drop}

-- the byte that marks the index i, and the number that does
abbrev pub byte_marker : ℕ → ℕ
byte_marker i = 128 + i % 101

abbrev pub number_marker : ℕ → ℕ
number_marker i = 1 + i % 60013

module _ {A : Type 0} where
  -- the marks in the place of the elements xs, the first of which has the index i
  unfoldable pub marks_from : (ℕ → A) → ℕ → List A → List A
  marks_from marker i [] = []
  marks_from marker i (x ∷ xs) = marker i ∷ marks_from marker (suc i) xs

  -- xs with each index from `at` on marked
  abbrev pub marked : (ℕ → A) → ℕ → List A → List A
  marked marker at xs = take at xs ++ marks_from marker at (drop at xs)

  -- the first index whose element is not its mark, where the first of xs has the index i
  unfoldable pub changed_from : (A → A → Bool) → (ℕ → A) → ℕ → List A → Option ℕ
  changed_from same marker i [] = None
  changed_from same marker i (x ∷ xs) = cond (same x (marker i)) (changed_from same marker (suc i) xs) (Some i)
