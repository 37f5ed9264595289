-- A list but for its last element. Assumes nothing.
use Prim.Native.Nat.{ℕ, suc, ◌-◌, ◌≤◌, ◌<◌}
use mathlib.Core.List.{List, [], ◌∷◌, ◌++◌, drop_last}
use mathlib.Core.Path.{◌≡◌, refl, sym, ◌∙◌, ap}
use native.Mathlib.Omega.{arith}
use lib.ListN.{length, take, get_or}
use lib.Seq.{length-take-le, take-length, take-suc, get_or-take}

module _ {A : Type 0} where
  drop_last_take : (xs : List A) → drop_last xs ≡ take (length xs - 1) xs
  drop_last_take [] = refl
  drop_last_take (x ∷ []) = refl
  drop_last_take (x ∷ y ∷ xs) =
      let one : suc (suc (length xs)) - 1 ≡ suc (suc (length xs) - 1) = omega arith in
      rw one (ap (λ (l : List A). x ∷ l) (drop_last_take (y ∷ xs)))

  pub drop_last_length : (xs : List A) → length (drop_last xs) ≡ length xs - 1
  drop_last_length xs = rw drop_last_take (length-take-le (length xs - 1) xs (omega arith))

  -- an element before the last
  pub drop_last_get_d : (xs : List A) (i : ℕ) (d : A) → suc i < length xs → get_or (drop_last xs) i d ≡ get_or xs i d
  drop_last_get_d xs i d h = rw drop_last_take (get_or-take (length xs - 1) xs i d (omega arith))

  -- the rest after which one element was put
  pub drop_last_append : (xs : List A) (x : A) → drop_last (xs ++ (x ∷ [])) ≡ xs
  drop_last_append [] x = refl
  drop_last_append (y ∷ []) x = refl
  drop_last_append (y ∷ z ∷ xs) x = ap (λ (l : List A). y ∷ l) (drop_last_append (z ∷ xs) x)

  -- and the last after the others
  pub drop_last_last : (xs : List A) (d : A) → 1 ≤ length xs → drop_last xs ++ (get_or xs (length xs - 1) d ∷ []) ≡ xs
  drop_last_last xs d some =
      let all : suc (length xs - 1) ≡ length xs = omega arith in
      rw drop_last_take (sym (take-suc xs (length xs - 1) d (omega arith)) ∙ rw all (take-length xs))
