-- The digit rule: laws of `digit_field`. Assumes nothing.
use Prim.Native.Nat.{ℕ, ◌+◌, ◌-◌, ◌*◌, ◌^◌, ◌≤◌, ◌<◌}
use mathlib.Core.Path.{◌≡◌, refl, sym, ◌∙◌}
use mathlib.Core.Bool.{Bool, true, false, cond, ◌&&◌, and-eq-true_iff}
use mathlib.Core.List.{List}
use mathlib.Core.Logic.{◌⊎◌, inl, inr}
use native.Mathlib.Omega.{arith}
use lib.Dec.{leb}
use lib.ListN.{length, drop, get_or, drop_of_length-le}
use borrow.Author.Tests.{leb-true, le-leb, lt-leb}
use Rattle.sequences.proofs.Drop.{drop_next}
use Rattle.fields.specs.FieldVerdict.{FieldVerdict, accepted, refused, not_digits}
use Rattle.fields.specs.Digits.{is_digit, is_digits, number_from, number, digits, digits_from, digit_field}
use Rattle.fields.specs.Laws.{FieldExact, FieldRefused}
use Rattle.fields.proofs.Answers.{passed, failed, accepted-same, refused_exactly}
use Rattle.fields.proofs.Decimal.{number_below, written-length, written-digits, written_read_fits, read-written}

-- which bytes are digits
pub digit_low : (b : ℕ) → b < 48 → is_digit b ≡ false
digit_low b h = rw (lt-leb 48 b h)

pub digit_high : (b : ℕ) → 57 < b → is_digit b ≡ false
digit_high b h =
    let above : 48 ≤ b = omega arith in
    rw (le-leb 48 b above, lt-leb b 57 h)

pub digit_right : (b : ℕ) → 48 ≤ b → b ≤ 57 → is_digit b ≡ true
digit_right b h k = rw (le-leb 48 b h, le-leb b 57 k)

-- which lengths a digit field may have
pub digit_field-empty : (bs : List ℕ) → length bs ≡ 0 → digit_field bs ≡ refused not_digits
unfolding digit_field
digit_field-empty bs h = rw h

pub digit_field_long : (bs : List ℕ) → 15 < length bs → digit_field bs ≡ refused not_digits
unfolding digit_field
digit_field_long bs h =
    let some : 1 ≤ length bs = omega arith in
    rw (le-leb 1 (length bs) some, lt-leb (length bs) 15 h)

pub digit_field-sized : (bs : List ℕ) → 1 ≤ length bs → length bs ≤ 15 → digit_field bs ≡ digits_from 0 bs
unfolding digit_field
digit_field-sized bs h k = rw (le-leb 1 (length bs) h, le-leb (length bs) 15 k)

-- an accepted digit field
pub digit_field-accepted : (bs : List ℕ) (v : ℕ) → digit_field bs ≡ accepted v → (1 ≤ length bs) × (length bs ≤ 15) × (is_digits bs ≡ true) × (number bs ≡ v)
unfolding digit_field
digit_field-accepted bs v e =
    let sized = passed (leb 1 (length bs) && leb (length bs) 15) (digits_from 0 bs) not_digits e in
    let ends = (and-eq-true_iff (leb 1 (length bs)) (leb (length bs) 15)).0 sized.0 in
    let read = passed (is_digits bs) (accepted (number bs)) not_digits sized.1 in
    (leb-true 1 (length bs) ends.0, leb-true (length bs) 15 ends.1, read.0, accepted-same read.1)

field_read :
    (bs : List ℕ) (v : ℕ) → digit_field bs ≡ accepted v → (1 ≤ length bs) × (length bs ≤ 15) × (v < 10 ^ length bs) × (bs ≡ digits (length bs) v)
field_read bs v e =
    let h = digit_field-accepted bs v e in
    (h.0, h.1, rw h.3 at (number_below bs h.2), sym (rw h.3 at (read-written bs h.2)))

-- a number that fits n digits is read back from them
pub field-written : (n v : ℕ) → 1 ≤ n → n ≤ 15 → v < 10 ^ n → digit_field (digits n v) ≡ accepted v
field-written n v some few fits =
    let size = written-length n v in
    digit_field-sized (digits n v) (rw size some) (rw size few) ∙ rw (written-digits n v, written_read_fits n v fits)

pub field_exact : FieldExact
field_exact bs v = (field_read bs v, λ h. rw h.3 (field-written (length bs) v h.0 h.1 h.2))

-- what is refused at a right length is no digits
pub digit_field_no_digits : (bs : List ℕ) (n : ℕ) → 1 ≤ length bs → length bs ≤ 15 → digit_field bs ≡ refused n → is_digits bs ≡ false
digit_field_no_digits bs n some few e = failed (is_digits bs) (number bs) not_digits n (sym (digit_field-sized bs some few) ∙ e)

-- digits of a right length give their number
digit_field_value : (bs : List ℕ) → 1 ≤ length bs → length bs ≤ 15 → is_digits bs ≡ true → digit_field bs ≡ accepted (number bs)
digit_field_value bs some few all = digit_field-sized bs some few ∙ rw all

pub field-refused : FieldRefused
unfolding digit_field
field-refused bs =
    refused_exactly (digit_field bs) not_digits (λ h. (number bs, digit_field_value bs h.0 h.1 h.2))
    (decided (leb 1 (length bs) && leb (length bs) 15) (is_digits bs) refl refl)
  where
    decided :
        (a b : Bool)
        → (leb 1 (length bs) && leb (length bs) 15) ≡ a → is_digits bs ≡ b
        → ((1 ≤ length bs) × (length bs ≤ 15) × (is_digits bs ≡ true)) ⊎ (digit_field bs ≡ refused not_digits)
    decided false b sized all = inr (rw sized)
    decided true false sized all = inr (rw (sized, all))
    decided true true sized all =
        let ends = (and-eq-true_iff (leb 1 (length bs)) (leb (length bs) 15)).0 sized in
        inl (leb-true 1 (length bs) ends.0, leb-true (length bs) 15 ends.1, all)

-- for a loop over i: the digit at i, then the rest; and past the end the number is read
pub digits_from_next :
    (v : ℕ) (xs : List ℕ) (i : ℕ)
    → i < length xs → digits_from v (drop i xs) ≡ cond (is_digit (get_or xs i 0)) (digits_from (v * 10 + (get_or xs i 0 - 48)) (drop (i + 1) xs)) (refused not_digits)
unfolding number_from
digits_from_next v xs i h = rw (drop_next xs i h) (pick (is_digit (get_or xs i 0)) (is_digits (drop (i + 1) xs)) _ _)
  where
    pick : (a b : Bool) (x y : FieldVerdict ℕ) → cond (a && b) x y ≡ cond a (cond b x y) y
    pick true b x y = refl
    pick false b x y = refl

pub digits_from_end : (v : ℕ) (xs : List ℕ) (i : ℕ) → length xs ≤ i → digits_from v (drop i xs) ≡ accepted v
unfolding number_from
digits_from_end v xs i h = rw (drop_of_length-le xs h)
