-- What is left of a list from an index on, as a loop that counts `i + 1` has it. Assumes nothing.
use mathlib.Core.Path.{◌≡◌}
use mathlib.Core.List.{List, ◌∷◌}
use Prim.Native.Nat.{ℕ, suc, ◌+◌, ◌<◌}
use native.Mathlib.Nat.{le_refl}
use native.Mathlib.Numerals.{add-one}
use lib.ListN.{length, drop, get_or, set}
use lib.Seq.{drop-cons, drop-set-lt, get_or-set_same, lt-length-set}

-- one more element dropped
pub drop_next : (xs : List ℕ) (i : ℕ) → i < length xs → drop i xs ≡ get_or xs i 0 ∷ drop (i + 1) xs
drop_next xs i h = rw (add-one, drop-cons xs i 0)

-- the element just stored is the first that is left
pub drop-set : (xs : List ℕ) (i v : ℕ) → i < length xs → drop i (set xs i v) ≡ v ∷ drop (suc i) xs
drop-set xs i v h =
    let stored : i < length (set xs i v) = lt-length-set xs i v h in
    rw (drop-cons (set xs i v) i 0 stored, get_or-set_same xs i v 0 h, drop-set-lt (suc i) xs i v (le_refl (suc i)))
