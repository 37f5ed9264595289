-- A list cut before each element that passes a test. Assumes nothing.
use Rattle.std.specs.Prelude.{Bool, cond, List, [], ◌∷◌}

-- what stands before the first element that passes
unfoldable pub lead : {A : Type 0} → (A → Bool) → List A → List A
lead p [] = []
lead p (x ∷ xs) = cond (p x) [] (x ∷ lead p xs)

-- each element that passes, with those after it up to the next that does
unfoldable pub groups : {A : Type 0} → (A → Bool) → List A → List (List A)
groups p [] = []
groups p (x ∷ xs) = cond (p x) ((x ∷ lead p xs) ∷ groups p xs) (groups p xs)
