-- What holds of every element of a list and its number, counted from a first one. Assumes nothing.
use Rattle.std.specs.Prelude.{ℕ, suc, List, [], ◌∷◌}

abbrev pub Counted : {A : Type 0} → (ℕ → A → Type 0) → ℕ → List A → Type 0
Counted P n [] = Unit
Counted P n (x ∷ xs) = P n x × Counted P (suc n) xs
