-- A test that antt computes at every number below a bound holds at each of them. Assumes nothing.
use mathlib.Core.Path.{◌≡◌, sym, subst}
use mathlib.Core.Bool.{Bool, true, ◌&&◌, and-eq-true_iff}
use mathlib.Core.Logic.{⊎_elim}
use Prim.Native.Nat.{ℕ, zero, suc, ◌<◌}
use native.Mathlib.Nat.{le_of_suc-le-suc, not-suc-le-zero, eq-or-lt_of_le}

-- f passes at each number below n
abbrev pub all_below : ℕ → (ℕ → Bool) → Bool
all_below zero f = true
all_below (suc n) f = f n && all_below n f

pub below : (n : ℕ) (f : ℕ → Bool) → all_below n f ≡ true → (k : ℕ) → k < n → f k ≡ true
below zero f t k h = absurd (not-suc-le-zero h)
below (suc n) f t k h =
    let both = (and-eq-true_iff (f n) (all_below n f)).0 t in
    ⊎_elim (λ e. subst (λ (m : ℕ). f m ≡ true) (sym e) both.0) (λ l. below n f both.1 k l) (eq-or-lt_of_le (le_of_suc-le-suc h))
