-- A test passed by every element of a list. Assumes nothing.
use Rattle.std.specs.Prelude.{Bool, List, ℕ}
use Rattle.std.specs.List.{list_all}

-- p passes at each element of xs; at none where there is none
abbrev pub every : (ℕ → Bool) → List ℕ → Bool
every p xs = list_all p xs
