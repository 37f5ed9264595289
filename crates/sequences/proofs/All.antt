-- Laws of `All`. Assumes nothing.
use mathlib.Core.List.{List, [], ◌∷◌, ◌++◌}
use Prim.Native.Nat.{ℕ, zero, suc, ◌<◌}
use native.Mathlib.Nat.{le_of_suc-le-suc, not-suc-le-zero}
use lib.ListN.{length, get_or}
use Rattle.sequences.specs.All.{All}

module _ {A : Type 0} (P : A → Type 0) where
  -- of two lists joined
  pub all_append : (xs ys : List A) → All P xs → All P ys → All P (xs ++ ys)
  all_append [] ys front back = back
  all_append (x ∷ xs) ys front back = (front.0, all_append xs ys front.1 back)

  pub all-before : (xs ys : List A) → All P (xs ++ ys) → All P xs
  all-before [] ys all = tt
  all-before (x ∷ xs) ys all = (all.0, all-before xs ys all.1)

  pub all_after : (xs ys : List A) → All P (xs ++ ys) → All P ys
  all_after [] ys all = all
  all_after (x ∷ xs) ys all = all_after xs ys all.1

  -- of one element
  pub all_at : (xs : List A) (x : A) (ys : List A) → All P (xs ++ (x ∷ ys)) → P x
  all_at xs x ys all = (all_after xs (x ∷ ys) all).0

  pub all_get_d : (xs : List A) (k : ℕ) (d : A) → k < length xs → All P xs → P (get_or xs k d)
  all_get_d [] k d h all = absurd (not-suc-le-zero h)
  all_get_d (x ∷ xs) zero d h all = all.0
  all_get_d (x ∷ xs) (suc k) d h all = all_get_d xs k d (le_of_suc-le-suc h) all.1

-- what holds of every element, and what follows from it
pub all_map : {A : Type 0} {P Q : A → Type 0} → ((x : A) → P x → Q x) → (xs : List A) → All P xs → All Q xs
all_map f [] all = tt
all_map f (x ∷ xs) all = (f x all.0, all_map f xs all.1)
