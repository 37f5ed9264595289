-- Numbers and their decimal digits: laws of `number` and `digits`, each over the field's length. Assumes nothing.
use Prim.Native.Nat.{ℕ, zero, suc, ◌+◌, ◌-◌, ◌*◌, ◌/◌, ◌%◌, ◌^◌, ◌≤◌, ◌<◌}
use mathlib.Core.Path.{◌≡◌, refl, sym, ◌∙◌, ap}
use mathlib.Core.Bool.{true, and-eq-true_iff}
use mathlib.Core.List.{List, [], ◌∷◌, ◌++◌, append-nil}
use native.Mathlib.Nat.{pow-suc, one-le-pow, mod-eq_of_lt, add-zero, zero-add, mul-le-mul_right}
use native.Mathlib.Numerals.{add-one}
use native.Mathlib.Omega.{arith}
use lib.Arith.{mod-mul}
use lib.Dec.{leb}
use lib.ListN.{length, drop, set, length-append}
use lib.Seq.{append_snoc}
use borrow.Author.Tests.{leb-true, le-leb}
use Rattle.sequences.proofs.Drop.{drop-set}
use Rattle.sequences.proofs.Every.{every_append}
use Rattle.fields.specs.Laws.{NumberBelow, WrittenLength, WrittenDigits, WrittenRead, ReadWritten}
use Rattle.fields.specs.Digits.{is_digit, is_digits, number_from, number, digits}

-- the first digit of a digit field, and the rest
pub first_digit : (b : ℕ) (bs : List ℕ) → is_digits (b ∷ bs) ≡ true → (48 ≤ b) × (b ≤ 57)
first_digit b bs t =
    let here = ((and-eq-true_iff (is_digit b) (is_digits bs)).0 t).0 in
    let ends = (and-eq-true_iff (leb 48 b) (leb b 57)).0 here in
    (leb-true 48 b ends.0, leb-true b 57 ends.1)

pub other-digits : (b : ℕ) (bs : List ℕ) → is_digits (b ∷ bs) ≡ true → is_digits bs ≡ true
other-digits b bs t = ((and-eq-true_iff (is_digit b) (is_digits bs)).0 t).1

-- two fields read one after the other
pub number_from-append : (v : ℕ) (xs ys : List ℕ) → number_from v (xs ++ ys) ≡ number_from (number_from v xs) ys
unfolding number_from
number_from-append v [] ys = refl
number_from-append v (x ∷ xs) ys = number_from-append (v * 10 + (x - 48)) xs ys

-- a number read before stands in front, with a zero for each digit after it
number_from_shift : (v : ℕ) (bs : List ℕ) → number_from v bs ≡ v * 10 ^ length bs + number bs
unfolding number_from
number_from_shift v [] = omega arith
number_from_shift v (b ∷ bs) =
    rw (number_from_shift (v * 10 + (b - 48)) bs, number_from_shift (0 * 10 + (b - 48)) bs, pow-suc) (omega arith)

pub number_append : (xs ys : List ℕ) → number (xs ++ ys) ≡ number xs * 10 ^ length ys + number ys
number_append xs ys = number_from-append 0 xs ys ∙ number_from_shift (number xs) ys

-- n digits after v stay below v + 1 with n zeros
below_from : (v : ℕ) (bs : List ℕ) → is_digits bs ≡ true → number_from v bs < suc v * 10 ^ length bs
unfolding number_from
below_from v [] t = omega arith
below_from v (b ∷ bs) t =
    let w = v * 10 + (b - 48) in
    let digit = first_digit b bs t in
    let small : suc w ≤ suc v * 10 = omega arith in
    rw pow-suc (omega (arith, below_from w bs (other-digits b bs t), mul-le-mul_right (10 ^ length bs) small))

-- the number of n digits is below 10 ^ n
pub number_below : NumberBelow
number_below bs t = omega (arith, below_from 0 bs t)

-- what is written has its length
pub written-length : WrittenLength
unfolding digits
written-length zero v = refl
written-length (suc n) v = length-append (digits n (v / 10)) ((48 + v % 10) ∷ []) ∙ add-one (length (digits n (v / 10))) ∙ ap suc (written-length n (v / 10))

-- and is all digits
pub written-digits : WrittenDigits
unfolding digits
written-digits zero v = refl
written-digits (suc n) v =
    simp (every_append, written-digits n (v / 10), le-leb 48 (48 + v % 10) (omega arith), le-leb (48 + v % 10) 57 (omega arith))

-- writing, then reading: the number, less what did not fit
pub written_read : WrittenRead
unfolding digits number_from
written_read zero v = omega arith
written_read (suc n) v =
    rw (number_from-append 0 (digits n (v / 10)) ((48 + v % 10) ∷ []), written_read n (v / 10), pow-suc)
    (omega (arith, mod-mul v {c = 10} (one-le-pow n 10 (omega arith)) (omega arith)))

-- where it fits, the number itself
pub written_read_fits : (n v : ℕ) → v < 10 ^ n → number (digits n v) ≡ v
written_read_fits n v h = written_read n v ∙ mod-eq_of_lt h

-- digits read after v are written after v
digits_from : (n v : ℕ) (bs : List ℕ) → is_digits bs ≡ true → digits (n + length bs) (number_from v bs) ≡ digits n v ++ bs
unfolding number_from digits
digits_from n v [] t = rw (add-zero, append-nil)
digits_from n v (b ∷ bs) t =
    let w = v * 10 + (b - 48) in
    let digit = first_digit b bs t in
    let high : w / 10 ≡ v = omega arith in
    let low : 48 + w % 10 ≡ b = omega arith in
    let count : n + suc (length bs) ≡ suc n + length bs = omega arith in
    rw (count, digits_from (suc n) w bs (other-digits b bs t), high, low) (append_snoc (digits n v) b bs)

-- reading, then writing: the bytes
pub read-written : ReadWritten
unfolding digits
read-written bs t = rw (← zero-add (length bs)) (digits_from 0 0 bs t)

-- one more digit: the bound that a loop keeps
pub digit_more : (i v d : ℕ) → v < 10 ^ i → d ≤ 9 → v * 10 + d < 10 ^ (i + 1)
digit_more i v d h k = rw (add-one, pow-suc) (omega arith)

-- for a loop that writes from the back: the digit stored at i joins those after it
pub digits_store :
    (i v : ℕ) (out : List ℕ) → i < length out → digits i (v / 10) ++ drop i (set out i (48 + v % 10)) ≡ digits (suc i) v ++ drop (suc i) out
unfolding digits
digits_store i v out h = rw (drop-set out i (48 + v % 10) h) (sym (append_snoc (digits i (v / 10)) (48 + v % 10) (drop (suc i) out)))
