-- A number written over a field: how many bytes it has, and where they are. Assumes nothing.
use Prim.Native.Nat.{ℕ, ◌-◌, min, ◌≤◌, ◌<◌}
use mathlib.Core.Bool.{Bool, true, false}
use mathlib.Core.List.{List}
use mathlib.Core.Path.{◌≡◌, refl, sym, ◌∙◌, ap}
use native.Mathlib.Omega.{arith}
use lib.Dec.{leb, ltb}
use lib.ListN.{length, drop, length-drop}
use lib.Seq.{length-take-le, take_all}
use borrow.Author.Tests.{leb-true, leb-false, ltb-true, ltb-false, lt-ltb}
use Rattle.sequences.specs.Part.{put}
use Rattle.sequences.proofs.Part.{put-nothing}
use Rattle.fields.specs.Digits.{digits}
use Rattle.records.specs.Field.{◌to◌, width, field, field_start, number_written}

-- as many bytes as the record has of its positions
pub field-count : (a e : ℕ) (rec : List ℕ) → length (field a e rec) ≡ min e (length rec) - (a - 1)
field-count a e rec = by (leb (e - (a - 1)) (length (drop (a - 1) rec))) refl
  where
    left : length (drop (a - 1) rec) ≡ length rec - (a - 1)
    left = length-drop (a - 1) rec

    by : (b : Bool) → leb (e - (a - 1)) (length (drop (a - 1) rec)) ≡ b → length (field a e rec) ≡ min e (length rec) - (a - 1)
    by true t =
        let fits = leb-true (e - (a - 1)) (length (drop (a - 1) rec)) t in
        length-take-le (e - (a - 1)) (drop (a - 1) rec) fits ∙ omega (arith, left)
    by false t =
        let over = leb-false (e - (a - 1)) (length (drop (a - 1) rec)) t in
        ap length (take_all (e - (a - 1)) (drop (a - 1) rec) (omega arith)) ∙ omega (arith, left)

-- where it has none, nothing is written
pub none_written : (a e v : ℕ) (rec : List ℕ) → min e (length rec) ≤ a - 1 → rec ≡ number_written (a to e) v rec
unfolding digits
none_written a e v rec none =
    let empty : length (field a e rec) ≡ 0 = field-count a e rec ∙ omega arith in
    sym (ap (λ (n : ℕ). put (field_start a e rec) (digits n v) rec) empty ∙ put-nothing (field_start a e rec) rec)

-- where it has some, they are at its first position
pub some_written :
    (a e v : ℕ) (rec : List ℕ) → a - 1 < min e (length rec) → put (a - 1) (digits (min e (length rec) - (a - 1)) v) rec ≡ number_written (a to e) v rec
some_written a e v rec some =
    let short : a - 1 < e = omega arith in
    let within : a - 1 < length rec = omega arith in
    let start : a - 1 ≡ field_start a e rec = rw (lt-ltb _ _ short, lt-ltb _ _ within) in
    λ i. put (start i) (digits (sym (field-count a e rec) i) v) rec

-- and over a field that it has whole
pub written-within : (a e v : ℕ) (rec : List ℕ) → a - 1 ≤ e → e ≤ length rec → number_written (a to e) v rec ≡ put (a - 1) (digits (width (a to e)) v) rec
unfolding digits
written-within a e v rec ordered within = by (ltb (a - 1) e) refl
  where
    by : (b : Bool) → ltb (a - 1) e ≡ b → number_written (a to e) v rec ≡ put (a - 1) (digits (width (a to e)) v) rec
    by true t =
        let some = ltb-true (a - 1) e t in
        let size : min e (length rec) - (a - 1) ≡ width (a to e) = omega arith in
        sym (some_written a e v rec (omega arith)) ∙ ap (λ (n : ℕ). put (a - 1) (digits n v) rec) size
    by false t =
        let past = ltb-false (a - 1) e t in
        let none : width (a to e) ≡ 0 = omega arith in
        sym (none_written a e v rec (omega arith)) ∙ sym (ap (λ (n : ℕ). put (a - 1) (digits n v) rec) none ∙ put-nothing (a - 1) rec)
