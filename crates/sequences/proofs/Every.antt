-- Laws of `every`. Assumes nothing.
use mathlib.Core.Path.{◌≡◌, refl, sym, ◌∙◌, ap}
use mathlib.Core.Bool.{Bool, true, ◌&&◌, and_assoc, and-true, and-eq-true_iff}
use mathlib.Core.List.{List, [], ◌∷◌, ◌++◌}
use mathlib.Core.Logic.{◌↔◌}
use Prim.Native.Nat.{ℕ, ◌+◌, ◌≤◌, ◌<◌}
use lib.ListN.{length, take, drop, get_or, drop_of_length-le, take-append-drop}
use Rattle.sequences.specs.All.{All}
use Rattle.std.specs.List.{fold}
use Rattle.sequences.specs.Every.{every}
use Rattle.sequences.proofs.Drop.{drop_next}

-- of two lists joined, each passes
pub every_append : (p : ℕ → Bool) (xs ys : List ℕ) → every p (xs ++ ys) ≡ (every p xs && every p ys)
every_append p [] ys = refl
every_append p (x ∷ xs) ys = ap (λ (b : Bool). p x && b) (every_append p xs ys) ∙ sym (and_assoc (p x) (every p xs) (every p ys))

-- of a list cut in two, each part passes
pub every_split : (p : ℕ → Bool) (n : ℕ) (xs : List ℕ) → every p xs ≡ (every p (take n xs) && every p (drop n xs))
every_split p n xs = ap (every p) (sym (take-append-drop n xs)) ∙ every_append p (take n xs) (drop n xs)

-- for a loop over i: the test at i, then the rest; and past the end nothing is left to test
pub every_next : (p : ℕ → Bool) (xs : List ℕ) (i : ℕ) → i < length xs → every p (drop i xs) ≡ (p (get_or xs i 0) && every p (drop (i + 1) xs))
every_next p xs i h = rw (drop_next xs i) refl

pub every_end : (p : ℕ → Bool) (xs : List ℕ) (i : ℕ) → length xs ≤ i → every p (drop i xs) ≡ true
every_end p xs i h = rw (drop_of_length-le xs h) refl

-- of a fold over a list: all of it, after what came before
pub every_fold : (p : ℕ → Bool) (before : Bool) (xs : List ℕ) → fold (λ (b : Bool) (x : ℕ). b && p x) before xs ≡ (before && every p xs)
every_fold p before [] = sym (and-true before)
every_fold p before (x ∷ xs) = every_fold p (before && p x) xs ∙ and_assoc before (p x) (every p xs)

-- a test that says P of each element says it of all
pub all-every : (p : ℕ → Bool) (P : ℕ → Type 0) → ((b : ℕ) → (p b ≡ true) ↔ P b) → (bs : List ℕ) → (every p bs ≡ true) ↔ All P bs
all-every p P e [] = (λ t. tt, λ t. refl)
all-every p P e (b ∷ bs) =
    let both = and-eq-true_iff (p b) (every p bs) in
    let rest = all-every p P e bs in
    (λ t. ((e b).0 (both.0 t).0, rest.0 (both.0 t).1), λ h. both.1 ((e b).1 h.0, rest.1 h.1))
