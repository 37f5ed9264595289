-- The spans of the table: each lies within the record, and after those before it. Assumes nothing.
use Prim.Native.Nat.{ℕ, zero, suc, ◌+◌, ◌-◌, ◌≤◌, ◌<◌}
use mathlib.Core.Bool.{Bool, true, false, ◌&&◌, and-eq-true_iff, true≢false}
use mathlib.Core.List.{List, [], ◌∷◌, map}
use mathlib.Core.Path.{◌≡◌, refl, ap}
use native.Mathlib.Nat.{le_of_suc-le-suc, not-suc-le-zero}
use native.Mathlib.Numerals.{add-one}
use native.Mathlib.Numerals.{add-one}
use native.Mathlib.Omega.{arith}
use lib.Dec.{leb}
use lib.ListN.{length, drop, get_or, length-map, drop_of_length-le}
use borrow.Author.Tests.{leb-true}
use Rattle.sequences.specs.All.{All}
use Rattle.records.specs.Field.{Span, ◌to◌, first_of, last_of}
use Rattle.records.specs.Kinds.{heads}
use Rattle.list.specs.Table.{record_of, carried, pair_of}
use Rattle.list.specs.declared.table.ItemKind.{ItemKind}
use Rattle.list.proofs.ItemKinds.{each_item}

-- positions of a record, or none
pub record Within (s : Span) : Type 0 where
  pub starts : 1 ≤ first_of s
  pub ordered : first_of s - 1 ≤ last_of s
  pub ends : last_of s ≤ 120

abbrev pub is_within : Span → Bool
is_within s = leb 1 (first_of s) && (leb (first_of s - 1) (last_of s) && leb (last_of s) 120)

within_so : (s : Span) → is_within s ≡ true → Within s
within_so s t =
    let one = (and-eq-true_iff (leb 1 (first_of s)) (leb (first_of s - 1) (last_of s) && leb (last_of s) 120)).0 t in
    let two = (and-eq-true_iff (leb (first_of s - 1) (last_of s)) (leb (last_of s) 120)).0 one.1 in
    record { starts = leb-true 1 (first_of s) one.0; ordered = leb-true (first_of s - 1) (last_of s) two.0; ends = leb-true (last_of s) 120 two.1 }

abbrev pub are_within : List Span → Bool
are_within [] = true
are_within (s ∷ ss) = is_within s && are_within ss

pub all-within : (ss : List Span) → are_within ss ≡ true → All Within ss
all-within [] t = tt
all-within (s ∷ ss) t =
    let both = (and-eq-true_iff (is_within s) (are_within ss)).0 t in
    (within_so s both.0, all-within ss both.1)

pub carried-within : (k : ItemKind) → All Within (carried k)
carried-within k = all-within (carried k) (each_item (λ (k : ItemKind). are_within (carried k) ≡ true) (refl, (refl, (refl, (refl, (refl, (refl, (refl, (refl, (refl, (refl, (refl, tt))))))))))) k)

-- for a loop over the spans as the code has them: the span at index i, then the others; and past the last none is left
pub span_next :
    (ss : List Span) {ps : List (ℕ × ℕ)} (i : ℕ) → ps ≡ map pair_of ss → i < length ps
    → drop i ss ≡ ((get_or ps i (0, 0)).0 to (get_or ps i (0, 0)).1) ∷ drop (i + 1) ss
span_next ss i same h = rw (same, add-one i) (at ss i (rw same at h))
  where
    at : (ss : List Span) (i : ℕ) → i < length (map pair_of ss) → drop i ss ≡ ((get_or (map pair_of ss) i (0, 0)).0 to (get_or (map pair_of ss) i (0, 0)).1) ∷ drop (suc i) ss
    at [] i h = absurd (not-suc-le-zero h)
    at ((a to e) ∷ ss) zero h = refl
    at ((a to e) ∷ ss) (suc i) h = at ss i (le_of_suc-le-suc h)

pub span_end : (ss : List Span) {ps : List (ℕ × ℕ)} (i : ℕ) → ps ≡ map pair_of ss → length ps ≤ i → drop i ss ≡ []
span_end ss i same h = let past : length ss ≤ i = omega (arith, ap length same, length-map ss pair_of) in drop_of_length-le ss past

-- spans one after the other
abbrev pub Rising : List Span → Type 0
Rising [] = Unit
Rising (s ∷ ss) = All (λ (t : Span). last_of s ≤ first_of t - 1) ss × Rising ss

abbrev all_from : ℕ → List Span → Bool
all_from n [] = true
all_from n (s ∷ ss) = leb n (first_of s - 1) && all_from n ss

abbrev is_rising : List Span → Bool
is_rising [] = true
is_rising (s ∷ ss) = all_from (last_of s) ss && is_rising ss

from_so : (n : ℕ) (ss : List Span) → all_from n ss ≡ true → All (λ (t : Span). n ≤ first_of t - 1) ss
from_so n [] t = tt
from_so n (s ∷ ss) t =
    let both = (and-eq-true_iff (leb n (first_of s - 1)) (all_from n ss)).0 t in
    (leb-true n (first_of s - 1) both.0, from_so n ss both.1)

rising_so : (ss : List Span) → is_rising ss ≡ true → Rising ss
rising_so [] t = tt
rising_so (s ∷ ss) t =
    let both = (and-eq-true_iff (all_from (last_of s) ss) (is_rising ss)).0 t in
    (from_so (last_of s) ss both.0, rising_so ss both.1)

pub carried_rising : (k : ItemKind) → Rising (carried k)
carried_rising k = rising_so (carried k) (each_item (λ (k : ItemKind). is_rising (carried k) ≡ true) (refl, (refl, (refl, (refl, (refl, (refl, (refl, (refl, (refl, (refl, (refl, tt))))))))))) k)

-- no kind carries position 3 or one before it
pub carried_after : (k : ItemKind) → All (λ (t : Span). 3 ≤ first_of t - 1) (carried k)
carried_after k = from_so 3 (carried k) (each_item (λ (k : ItemKind). all_from 3 (carried k) ≡ true) (refl, (refl, (refl, (refl, (refl, (refl, (refl, (refl, (refl, (refl, (refl, tt))))))))))) k)

-- nor does one but a header's carry a position of the number
pub carried_after_number : (k : ItemKind) → heads (record_of k) ≡ false → All (λ (t : Span). 10 ≤ first_of t - 1) (carried k)
carried_after_number k member = from_so 10 (carried k) (each_item (λ (k : ItemKind). heads (record_of k) ≡ false → all_from 10 (carried k) ≡ true) (λ e. absurd (true≢false e), (λ e. absurd (true≢false e), (λ e. refl, (λ e. refl, (λ e. refl, (λ e. refl, (λ e. refl, (λ e. refl, (λ e. refl, (λ e. refl, (λ e. refl, tt))))))))))) k member)
