-- Bytes of 32 to 126: laws of `is_printable` and `bad_from`. Assumes nothing.
use Prim.Native.Nat.{ℕ, suc, ◌+◌, ◌≤◌, ◌<◌}
use mathlib.Core.Bool.{Bool, true, false, cond, not, and-eq-true_iff}
use mathlib.Core.List.{List, [], ◌∷◌}
use mathlib.Core.Path.{◌≡◌, refl, sym, ◌∙◌}
use native.Mathlib.Omega.{arith}
use lib.ListN.{length}
use lib.Dec.{ltb}
use borrow.Author.Tests.{ltb-true, ltb-false}
use Rattle.std.specs.Prelude.{Option, Some, None}
use Rattle.std.specs.List.{position, position_or_len}
use Rattle.sequences.specs.Every.{every}
use Rattle.records.specs.Bytes.{is_printable, bad_from}

-- a record all of text has no bad byte
pub no_bad_byte : (p : ℕ) (bs : List ℕ) → every is_printable bs ≡ true → bad_from p bs ≡ 0
unfolding bad_from
no_bad_byte p [] t = refl
no_bad_byte p (b ∷ bs) t =
    let both = (and-eq-true_iff (is_printable b) (every is_printable bs)).0 t in
    rw both.0 (no_bad_byte (suc p) bs both.1)

-- looked for from p on, the first bad byte is as far from there as printable ones stand before it; and where all are, it is nowhere
abbrev first_not : List ℕ → ℕ
first_not bs = position_or_len (λ (b : ℕ). not (is_printable b)) bs

bad_after : (p : ℕ) (bs : List ℕ) → first_not bs < length bs → bad_from p bs ≡ p + first_not bs
unfolding bad_from
bad_after p [] h = absurd (omega arith)
bad_after p (b ∷ bs) h =
    let n = first_not bs in
    elim (is_printable b) as (λ (t : Bool). cond (not (not t)) (1 + n) 0 < suc (length bs) → cond t (bad_from (suc p) bs) p ≡ p + cond (not (not t)) (1 + n) 0) [
      | true ↦ λ k. bad_after (suc p) bs (omega arith) ∙ omega arith
      | false ↦ λ k. omega arith
    ] h

none_after : (p : ℕ) (bs : List ℕ) → length bs ≤ first_not bs → bad_from p bs ≡ 0
unfolding bad_from
none_after p [] h = refl
none_after p (b ∷ bs) h =
    let n = first_not bs in
    elim (is_printable b) as (λ (t : Bool). suc (length bs) ≤ cond (not (not t)) (1 + n) 0 → cond t (bad_from (suc p) bs) p ≡ 0) [
      | true ↦ λ k. none_after (suc p) bs (omega arith)
      | false ↦ λ k. absurd (omega arith)
    ] h

-- as a search for it tells: at the index that it gives, or nowhere
pub bad_at : (bs : List ℕ) (i : ℕ) → position (λ (b : ℕ). not (is_printable b)) bs ≡ Some i → i + 1 ≡ bad_from 1 bs
bad_at bs i e = by (ltb (first_not bs) (length bs)) refl e
  where
    none_not_some : ◌≡◌ {A = Option ℕ} None (Some i) → ⊥
    none_not_some f = cc

    some_same : ◌≡◌ {A = Option ℕ} (Some (first_not bs)) (Some i) → first_not bs ≡ i
    some_same f = cc

    by : (t : Bool) → ltb (first_not bs) (length bs) ≡ t → cond t (Some (first_not bs)) None ≡ Some i → i + 1 ≡ bad_from 1 bs
    by true so f =
        let bad = bad_after 1 bs (ltb-true _ _ so) in
        let same = some_same f in
        omega arith
    by false so f = absurd (none_not_some f)

pub bad_nowhere : (bs : List ℕ) → position (λ (b : ℕ). not (is_printable b)) bs ≡ None → 0 ≡ bad_from 1 bs
bad_nowhere bs e = by (ltb (first_not bs) (length bs)) refl e
  where
    some_not_none : ◌≡◌ {A = Option ℕ} (Some (first_not bs)) None → ⊥
    some_not_none f = cc

    by : (t : Bool) → ltb (first_not bs) (length bs) ≡ t → cond t (Some (first_not bs)) None ≡ None → 0 ≡ bad_from 1 bs
    by true so f = absurd (some_not_none f)
    by false so f = sym (none_after 1 bs (ltb-false _ _ so))
