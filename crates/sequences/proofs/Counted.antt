-- Laws of `Counted`: of two lists joined. Assumes nothing.
use Prim.Native.Nat.{ℕ, suc, ◌+◌}
use mathlib.Core.List.{List, [], ◌∷◌, ◌++◌}
use mathlib.Core.Path.{◌≡◌, subst}
use native.Mathlib.Omega.{arith}
use lib.ListN.{length}
use Rattle.sequences.specs.Counted.{Counted}

module _ {A : Type 0} (P : ℕ → A → Type 0) where
  pub counted-before : (n : ℕ) (xs ys : List A) → Counted P n (xs ++ ys) → Counted P n xs
  counted-before n [] ys all = tt
  counted-before n (x ∷ xs) ys all = (all.0, counted-before (suc n) xs ys all.1)

  pub counted_after : (n : ℕ) (xs ys : List A) → Counted P n (xs ++ ys) → Counted P (n + length xs) ys
  counted_after n [] ys all = let same : n ≡ n + 0 = omega arith in subst (λ (m : ℕ). Counted P m ys) same all
  counted_after n (x ∷ xs) ys all = let same : suc n + length xs ≡ n + suc (length xs) = omega arith in subst (λ (m : ℕ). Counted P m ys) same (counted_after (suc n) xs ys all.1)

  pub counted-append : (n : ℕ) (xs ys : List A) → Counted P n xs → Counted P (n + length xs) ys → Counted P n (xs ++ ys)
  counted-append n [] ys front back = let same : n + 0 ≡ n = omega arith in subst (λ (m : ℕ). Counted P m ys) same back
  counted-append n (x ∷ xs) ys front back =
      let same : n + suc (length xs) ≡ suc n + length xs = omega arith in
      (front.0, counted-append (suc n) xs ys front.1 (subst (λ (m : ℕ). Counted P m ys) same back))
