-- Tests on bytes, and what they say of lists: laws of `is_blank` and `is_equal`. Assumes nothing.
use Prim.Native.Nat.{ℕ, zero, suc, ◌+◌, ◌≤◌, ◌<◌}
use mathlib.Core.Path.{◌≡◌, refl, ap₂}
use mathlib.Core.Bool.{Bool, true, false, ◌&&◌, and-eq-true_iff, false≢true}
use mathlib.Core.List.{List, [], ◌∷◌}
use native.Mathlib.Omega.{arith}
use lib.Dec.{eqb}
use lib.ListN.{length, drop, get_or, replicate, drop_of_length-le}
use borrow.Author.Tests.{eq-eqb, eqb-true}
use Rattle.std.specs.Bool.{Decides, one_answer}
use Rattle.sequences.proofs.Drop.{drop_next}
use Rattle.fields.specs.Bytes.{is_blank, is_blank_byte, is_equal}
use Rattle.fields.specs.Laws.{BlankExact, EqualExact}

blank_list : (bs : List ℕ) → is_blank bs ≡ true → bs ≡ replicate (length bs) 32
blank_list [] t = refl
blank_list (b ∷ bs) t =
    let both = (and-eq-true_iff (is_blank_byte b) (is_blank bs)).0 t in
    ap₂ ◌∷◌ (eqb-true b 32 both.0) (blank_list bs both.1)

pub blanks : (n : ℕ) → is_blank (replicate n 32) ≡ true
blanks zero = refl
blanks (suc n) = blanks n

pub blank_exact : BlankExact
blank_exact bs = (blank_list bs, λ e. rw e (blanks (length bs)))

pub is_equal_refl : (xs : List ℕ) → is_equal xs xs ≡ true
unfolding is_equal
is_equal_refl [] = refl
is_equal_refl (x ∷ xs) = rw (eq-eqb x x refl) (is_equal_refl xs)

pub is_equal_true : (xs ys : List ℕ) → is_equal xs ys ≡ true → xs ≡ ys
unfolding is_equal
is_equal_true [] [] t = refl
is_equal_true [] (y ∷ ys) t = absurd (false≢true t)
is_equal_true (x ∷ xs) [] t = absurd (false≢true t)
is_equal_true (x ∷ xs) (y ∷ ys) t =
    let both = (and-eq-true_iff (eqb x y) (is_equal xs ys)).0 t in
    ap₂ ◌∷◌ (eqb-true x y both.0) (is_equal_true xs ys both.1)

pub is_equal_false : (xs ys : List ℕ) → (xs ≡ ys → ⊥) → is_equal xs ys ≡ false
is_equal_false xs ys n = decide (is_equal xs ys) (λ t. n (is_equal_true xs ys t))
  where
    decide : (b : Bool) → (b ≡ true → ⊥) → b ≡ false
    decide true h = absurd (h refl)
    decide false h = refl

pub equal_exact : EqualExact
equal_exact xs ys = (is_equal_true xs ys, λ e. rw (← e) (is_equal_refl xs))

-- a test that is true exactly where they are equal answers the same
pub is_equal_decides : (xs ys : List ℕ) (b : Bool) → Decides b (xs ≡ ys) → b ≡ is_equal xs ys
is_equal_decides xs ys b d = one_answer b (is_equal xs ys) d (equal_exact xs ys)

-- for a loop over i, where the lengths agree: the elements at i, then the rest; and past the end nothing is left to compare
module _ (xs ys : List ℕ) (i : ℕ) (same : length xs ≡ length ys) where
  pub is_equal_next : i < length xs → is_equal (drop i xs) (drop i ys) ≡ (eqb (get_or xs i 0) (get_or ys i 0) && is_equal (drop (i + 1) xs) (drop (i + 1) ys))
  unfolding is_equal
  is_equal_next h =
      let k : i < length ys = omega arith in
      rw (drop_next xs i h, drop_next ys i k)

  pub is_equal_end : length xs ≤ i → is_equal (drop i xs) (drop i ys) ≡ true
  unfolding is_equal
  is_equal_end h =
      let k : length ys ≤ i = omega arith in
      rw (drop_of_length-le xs h, drop_of_length-le ys k)
