-- The records of a flow: cut apart, by their index, and joined again. Assumes nothing.
use Prim.Native.Nat.{ℕ, zero, suc, ◌+◌, ◌-◌, ◌*◌, ◌/◌, ◌≤◌, ◌<◌}
use mathlib.Core.List.{List, [], ◌∷◌, ◌++◌, append_assoc, append-nil, flatten}
use mathlib.Core.Path.{◌≡◌, refl, sym, ◌∙◌, ap}
use native.Mathlib.Nat.{le_of_suc-le-suc, not-suc-le-zero}
use native.Mathlib.Omega.{arith}
use lib.ListN.{length, take, drop, get_or, length-append, length-drop, take-append-drop}
use lib.Seq.{length-take-le, drop-drop, take_at, drop_at}
use Rattle.sequences.specs.All.{All}
use Rattle.sequences.specs.Part.{part}
use Rattle.sequences.proofs.Flatten.{flatten-append}
use Rattle.flow.specs.Records.{cut, record_at, records_of}

-- n records are cut
pub cut-count : (n : ℕ) (f : List ℕ) → length (cut n f) ≡ n
unfolding cut
cut-count zero f = refl
cut-count (suc n) f = ap suc (cut-count n (drop 120 f))

-- the records of a flow by their index
pub cut_at : (n i : ℕ) (f : List ℕ) → i < n → get_or (cut n f) i [] ≡ record_at i f
unfolding cut
cut_at zero i f h = absurd (not-suc-le-zero h)
cut_at (suc n) zero f h = refl
cut_at (suc n) (suc i) f h =
    let on : 120 + 120 * i ≡ 120 * suc i = omega arith in
    cut_at n i (drop 120 f) (le_of_suc-le-suc h) ∙ rw (drop-drop, on)

-- for a loop over i: the record at i, then the rest; and past the end none is left
pub cut_next : (n i : ℕ) (f : List ℕ) → i < n → cut (n - i) (drop (120 * i) f) ≡ record_at i f ∷ cut (n - suc i) (drop (120 * suc i) f)
unfolding cut
cut_next n i f h =
    let one : n - i ≡ suc (n - suc i) = omega arith in
    let on : 120 * i + 120 ≡ 120 * suc i = omega arith in
    rw one (rw (drop-drop, on))

pub cut_end : (n i : ℕ) (f : List ℕ) → n ≤ i → cut (n - i) f ≡ []
unfolding cut
cut_end n i f h = let none : n - i ≡ 0 = omega arith in rw none

-- the part of the flow that is the record at index i
pub record_part : (i : ℕ) (f : List ℕ) → part (120 * i) (120 * i + 120 - 120 * i) f ≡ record_at i f
record_part i f = let whole : 120 * i + 120 - 120 * i ≡ 120 = omega arith in ap (λ (n : ℕ). part (120 * i) n f) whole

pub record_whole : (f : List ℕ) (i : ℕ) → i < length f / 120 → length (record_at i f) ≡ 120
record_whole f i h = length-take-le 120 (drop (120 * i) f) (omega (arith, length-drop (120 * i) f))

-- records of 120 bytes each
abbrev pub Whole : List (List ℕ) → Type 0
Whole recs = All (λ (rec : List ℕ). length rec ≡ 120) recs

pub cut-whole : (n : ℕ) (f : List ℕ) → 120 * n ≤ length f → Whole (cut n f)
unfolding cut
cut-whole zero f h = tt
cut-whole (suc n) f h =
    (length-take-le 120 f (omega arith), cut-whole n (drop 120 f) (omega (arith, length-drop 120 f)))

-- cut, then joined
flatten-cut : (n : ℕ) (f : List ℕ) → length f ≡ 120 * n → flatten (cut n f) ≡ f
unfolding flatten cut
flatten-cut zero [] e = refl
flatten-cut zero (b ∷ f) e = absurd (omega arith)
flatten-cut (suc n) f e = ap (λ (l : List ℕ). take 120 f ++ l) (flatten-cut n (drop 120 f) (omega (arith, length-drop 120 f))) ∙ take-append-drop 120 f

-- joined, then cut
pub flatten-length : (recs : List (List ℕ)) → Whole recs → length (flatten recs) ≡ 120 * length recs
unfolding flatten
flatten-length [] whole = refl
flatten-length (rec ∷ recs) whole = length-append rec (flatten recs) ∙ omega (arith, flatten-length recs whole.1)

-- also from the front of what they make with other bytes after them
pub cut_front : (recs : List (List ℕ)) (rest : List ℕ) → Whole recs → cut (length recs) (flatten recs ++ rest) ≡ recs
unfolding flatten cut
cut_front [] rest whole = refl
cut_front (rec ∷ recs) rest whole =
    let front = take_at rec (flatten recs ++ rest) 120 whole.0 in
    let back = drop_at rec (flatten recs ++ rest) 120 whole.0 in
    rw (append_assoc rec (flatten recs) rest, front, back) (ap (λ (l : List (List ℕ)). rec ∷ l) (cut_front recs rest whole.1))

cut-flatten : (recs : List (List ℕ)) → Whole recs → cut (length recs) (flatten recs) ≡ recs
cut-flatten recs whole = ap (cut (length recs)) (sym (append-nil (flatten recs))) ∙ cut_front recs [] whole

pub records_joined : (f : List ℕ) (n : ℕ) → length f ≡ n * 120 → flatten (records_of f) ≡ f
records_joined f n e = flatten-cut (length f / 120) f (omega arith)

pub joined_records : (recs : List (List ℕ)) → Whole recs → records_of (flatten recs) ≡ recs
joined_records recs whole =
    let size = flatten-length recs whole in
    let count : length (flatten recs) / 120 ≡ length recs = omega arith in
    ap (λ (n : ℕ). cut n (flatten recs)) count ∙ cut-flatten recs whole

-- a part of whole records that are joined
pub part_joined :
    (xs ys zs : List (List ℕ)) → Whole xs → Whole ys → part (120 * length xs) (120 * length ys) (flatten (xs ++ (ys ++ zs))) ≡ flatten ys
part_joined xs ys zs before within =
    let front = flatten-length xs before in
    let size = flatten-length ys within in
    let joined : flatten (xs ++ (ys ++ zs)) ≡ flatten xs ++ (flatten ys ++ flatten zs) = flatten-append xs (ys ++ zs) ∙ ap (λ (l : List ℕ). flatten xs ++ l) (flatten-append ys zs) in
    ap (part (120 * length xs) (120 * length ys)) joined
    ∙ ap (take (120 * length ys)) (drop_at (flatten xs) (flatten ys ++ flatten zs) (120 * length xs) front)
    ∙ take_at (flatten ys) (flatten zs) (120 * length ys) size
