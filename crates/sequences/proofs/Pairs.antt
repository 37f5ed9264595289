-- Laws of `Pairs`. Assumes nothing.
use Prim.Native.Nat.{ℕ, zero, suc, ◌<◌}
use mathlib.Core.List.{List, [], ◌∷◌, ◌++◌, map}
use mathlib.Core.Path.{◌≡◌, refl, ap}
use native.Mathlib.Nat.{le_of_suc-le-suc, not-suc-le-zero}
use lib.ListN.{length, get_or}
use Rattle.sequences.specs.All.{All}
use Rattle.sequences.specs.Pairs.{Pairs}

module _ {A B : Type 0} (R : A → B → Type 0) where
  pub pairs_length : (xs : List A) (ys : List B) → Pairs R xs ys → length xs ≡ length ys
  pairs_length [] [] pairs = refl
  pairs_length [] (y ∷ ys) pairs = absurd pairs
  pairs_length (x ∷ xs) [] pairs = absurd pairs
  pairs_length (x ∷ xs) (y ∷ ys) pairs = ap suc (pairs_length xs ys pairs.1)

  pub pairs_append : (xs : List A) (ys : List B) (us : List A) (vs : List B) → Pairs R xs ys → Pairs R us vs → Pairs R (xs ++ us) (ys ++ vs)
  pairs_append [] [] us vs front back = back
  pairs_append [] (y ∷ ys) us vs front back = absurd front
  pairs_append (x ∷ xs) [] us vs front back = absurd front
  pairs_append (x ∷ xs) (y ∷ ys) us vs front back = (front.0, pairs_append xs ys us vs front.1 back)

  pub pairs_at : (xs : List A) (ys : List B) (d : A) (e : B) (i : ℕ) → Pairs R xs ys → i < length xs → R (get_or xs i d) (get_or ys i e)
  pairs_at [] [] d e i pairs h = absurd (not-suc-le-zero h)
  pairs_at [] (y ∷ ys) d e i pairs h = absurd pairs
  pairs_at (x ∷ xs) [] d e i pairs h = absurd pairs
  pairs_at (x ∷ xs) (y ∷ ys) d e zero pairs h = pairs.0
  pairs_at (x ∷ xs) (y ∷ ys) d e (suc i) pairs h = pairs_at xs ys d e i pairs.1 (le_of_suc-le-suc h)

  -- a list and what a function makes of it
  pub pairs_map : (g : B → A) (P : B → Type 0) → ((y : B) → P y → R (g y) y) → (ys : List B) → All P ys → Pairs R (map g ys) ys
  pairs_map g P each [] all = tt
  pairs_map g P each (y ∷ ys) all = (each y all.0, pairs_map g P each ys all.1)
