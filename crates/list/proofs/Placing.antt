-- Bytes placed in a record: what stands where. Assumes nothing.
use Prim.Native.Nat.{ℕ, suc, ◌+◌, ◌-◌, ◌≤◌, ◌<◌}
use mathlib.Core.Bool.{Bool, true, false}
use mathlib.Core.List.{List, [], ◌∷◌, ◌++◌}
use mathlib.Core.Logic.{◌⊎◌, inl, inr}
use mathlib.Core.Path.{◌≡◌, refl, sym, ◌∙◌, ap}
use native.Mathlib.Omega.{arith}
use lib.Dec.{leb}
use lib.ListN.{length, take, drop, get_or, take-append-drop}
use borrow.Author.Tests.{leb-true, leb-false}
use Rattle.sequences.specs.All.{All}
use Rattle.sequences.specs.Part.{part, put}
use Rattle.sequences.proofs.All.{all-before, all_after}
use Rattle.sequences.proofs.Part.{put-length, part-put, get_d_put, get_d_put_before, get_d_put_after, part_get_d, part-put-before, part-put_after, put_again, put_apart, all-put}
use Rattle.list.specs.Encode.{Placed, place, fill}

-- placed within a record of 120 bytes
abbrev pub Fits : Placed → Type 0
Fits (place p bs) = p - 1 + length bs ≤ 120

-- index i, counted from 0, lies in it
abbrev pub Covers : ℕ → Placed → Type 0
Covers i (place p bs) = (p - 1 ≤ i) × (i < p - 1 + length bs)

abbrev pub Covered : ℕ → List Placed → Type 0
Covered i [] = ⊥
Covered i (p ∷ ps) = Covers i p ⊎ Covered i ps

-- what is placed at index i is what the record rec has there
abbrev pub Agrees : ℕ → List ℕ → Placed → Type 0
Agrees i rec (place p bs) = Covers i (place p bs) → get_or bs (i - (p - 1)) 0 ≡ get_or rec i 0

-- it is what rec has there altogether
abbrev pub Matches : List ℕ → Placed → Type 0
Matches rec (place p bs) = part (p - 1) (length bs) rec ≡ bs

-- it lies outside the n bytes from index a on
abbrev pub Outside : ℕ → ℕ → Placed → Type 0
Outside a n (place p bs) = (a + n ≤ p - 1) ⊎ (p - 1 + length bs ≤ a)

pub fill-length : (ps : List Placed) (xs : List ℕ) → All Fits ps → length xs ≡ 120 → length (fill ps xs) ≡ 120
unfolding fill
fill-length [] xs fits whole = whole
fill-length (place p bs ∷ ps) xs fits whole =
    let within : p - 1 + length bs ≤ length xs = omega (arith, fits.0) in
    fill-length ps (put (p - 1) bs xs) fits.1 (put-length (p - 1) bs xs within ∙ whole)

-- outside of what is placed nothing changes
pub fill_outside : (a n : ℕ) (ps : List Placed) (xs : List ℕ) → All Fits ps → length xs ≡ 120 → All (Outside a n) ps → part a n (fill ps xs) ≡ part a n xs
unfolding fill
fill_outside a n [] xs fits whole outside = refl
fill_outside a n (place p bs ∷ ps) xs fits whole outside =
    let within : p - 1 + length bs ≤ length xs = omega (arith, fits.0) in
    fill_outside a n ps (put (p - 1) bs xs) fits.1 (put-length (p - 1) bs xs within ∙ whole) outside.1 ∙ unchanged within outside.0
  where
    unchanged : p - 1 + length bs ≤ length xs → Outside a n (place p bs) → part a n (put (p - 1) bs xs) ≡ part a n xs
    unchanged within (inl h) = part-put-before (p - 1) bs xs within a n h
    unchanged within (inr h) = part-put_after (p - 1) bs xs within a n h

-- an index that is covered, by bytes that rec has there, is as in rec; and so is one that was
pub fill-agrees :
    (i : ℕ) (rec : List ℕ) (ps : List Placed) (xs : List ℕ) → All Fits ps → length xs ≡ 120 → All (Agrees i rec) ps → Covered i ps ⊎ (get_or xs i 0 ≡ get_or rec i 0)
    → get_or (fill ps xs) i 0 ≡ get_or rec i 0
unfolding fill
fill-agrees i rec [] xs fits whole agrees (inl none) = absurd none
fill-agrees i rec [] xs fits whole agrees (inr same) = same
fill-agrees i rec (place p bs ∷ ps) xs fits whole agrees known =
    let within : p - 1 + length bs ≤ length xs = omega (arith, fits.0) in
    fill-agrees i rec ps (put (p - 1) bs xs) fits.1 (put-length (p - 1) bs xs within ∙ whole) agrees.1 (by within (leb (p - 1) i) (leb (suc i) (p - 1 + length bs)) refl refl known)
  where
    outside : (get_or (put (p - 1) bs xs) i 0 ≡ get_or xs i 0) → ¬ Covers i (place p bs) → Covered i (place p bs ∷ ps) ⊎ (get_or xs i 0 ≡ get_or rec i 0) → Covered i ps ⊎ (get_or (put (p - 1) bs xs) i 0 ≡ get_or rec i 0)
    outside same not-here (inl (inl here)) = absurd (not-here here)
    outside same not-here (inl (inr later)) = inl later
    outside same not-here (inr before) = inr (same ∙ before)

    by :
        p - 1 + length bs ≤ length xs → (b c : Bool) → leb (p - 1) i ≡ b → leb (suc i) (p - 1 + length bs) ≡ c → Covered i (place p bs ∷ ps) ⊎ (get_or xs i 0 ≡ get_or rec i 0)
        → Covered i ps ⊎ (get_or (put (p - 1) bs xs) i 0 ≡ get_or rec i 0)
    by within true true e f known =
        let from = leb-true (p - 1) i e in
        let to = leb-true (suc i) (p - 1 + length bs) f in
        inr (get_d_put (p - 1) bs xs within i from to ∙ agrees.0 (from, to))
    by within true false e f known =
        let to = leb-false (suc i) (p - 1 + length bs) f in
        outside (get_d_put_after (p - 1) bs xs within i (omega arith)) (λ here. omega (arith, here.1)) known
    by within false c e f known =
        let from = leb-false (p - 1) i e in
        outside (get_d_put_before (p - 1) bs xs within i (omega arith)) (λ here. omega (arith, here.0)) known

-- bytes that rec has altogether, it has at each index
pub matches_agrees : (i : ℕ) (rec : List ℕ) (q : Placed) → Matches rec q → Agrees i rec q
matches_agrees i rec (place p bs) same = λ here.
    let off : i - (p - 1) < length bs = omega (arith, here.0, here.1) in
    let on : p - 1 + (i - (p - 1)) ≡ i = omega (arith, here.0) in
    ap (λ (l : List ℕ). get_or l (i - (p - 1)) 0) (sym same) ∙ part_get_d (p - 1) (length bs) rec (i - (p - 1)) off ∙ ap (λ (j : ℕ). get_or rec j 0) on

-- what holds of each byte placed, and of each before, holds of each afterwards
module _ (P : ℕ → Type 0) where
  all_take : (n : ℕ) (xs : List ℕ) → All P xs → All P (take n xs)
  all_take n xs all = all-before P (take n xs) (drop n xs) (rw take-append-drop all)

  all_drop : (n : ℕ) (xs : List ℕ) → All P xs → All P (drop n xs)
  all_drop n xs all = all_after P (take n xs) (drop n xs) (rw take-append-drop all)

  pub all-part : (a n : ℕ) (xs : List ℕ) → All P xs → All P (part a n xs)
  all-part a n xs all = all_take n (drop a xs) (all_drop a xs all)

  abbrev pub AllPlaced : Placed → Type 0
  AllPlaced (place p bs) = All P bs

  pub fill-all : (ps : List Placed) (xs : List ℕ) → All AllPlaced ps → All P xs → All P (fill ps xs)
  unfolding fill
  fill-all [] xs placed all = all
  fill-all (place p bs ∷ ps) xs placed all =
      fill-all ps (put (p - 1) bs xs) placed.1 (all-put P (p - 1) bs xs placed.0 all)

pub fill-append : (ps qs : List Placed) (xs : List ℕ) → fill (ps ++ qs) xs ≡ fill qs (fill ps xs)
unfolding fill
fill-append [] qs xs = refl
fill-append (place p bs ∷ ps) qs xs = fill-append ps qs (put (p - 1) bs xs)

-- bytes written over a record that is filled, where nothing is placed, might as well have been there before
put_fill : (a : ℕ) (ys : List ℕ) (ps : List Placed) (xs : List ℕ) → All Fits ps → length xs ≡ 120 → a + length ys ≤ 120 → All (Outside a (length ys)) ps → put a ys (fill ps xs) ≡ fill ps (put a ys xs)
unfolding fill
put_fill a ys [] xs fits whole within outside = refl
put_fill a ys (place p bs ∷ ps) xs fits whole within outside =
    let inside : p - 1 + length bs ≤ length xs = omega (arith, fits.0) in
    put_fill a ys ps (put (p - 1) bs xs) fits.1 (put-length (p - 1) bs xs inside ∙ whole) within outside.1 ∙ ap (fill ps) (apart inside outside.0)
  where
    apart : p - 1 + length bs ≤ length xs → Outside a (length ys) (place p bs) → put a ys (put (p - 1) bs xs) ≡ put (p - 1) bs (put a ys xs)
    apart inside (inl h) = put_apart a (p - 1) ys bs xs h inside
    apart inside (inr h) = sym (put_apart (p - 1) a bs ys xs h (omega arith))

-- so bytes that were placed, and that nothing placed later touches, are placed anew by writing over them
pub fill_again :
    (ps : List Placed) (p : ℕ) (bs cs : List ℕ) (qs : List Placed) (xs : List ℕ) → All Fits ps → All Fits qs → p - 1 + length bs ≤ 120 → length xs ≡ 120 → length cs ≡ length bs
    → All (Outside (p - 1) (length cs)) qs → put (p - 1) cs (fill (ps ++ (place p bs ∷ qs)) xs) ≡ fill (ps ++ (place p cs ∷ qs)) xs
unfolding fill
fill_again ps p bs cs qs xs front back fits whole same outside =
    let before = fill ps xs in
    let size : length before ≡ 120 = fill-length ps xs front whole in
    let inside : p - 1 + length bs ≤ length before = omega arith in
    ap (put (p - 1) cs) (fill-append ps (place p bs ∷ qs) xs)
    ∙ put_fill (p - 1) cs qs (put (p - 1) bs before) back (put-length (p - 1) bs before inside ∙ size) (omega arith) outside
    ∙ ap (fill qs) (put_again (p - 1) cs bs before same inside)
    ∙ sym (fill-append ps (place p cs ∷ qs) xs)

-- where it starts, and where it ends
abbrev pub start : Placed → ℕ
start (place p bs) = p - 1

abbrev pub end : Placed → ℕ
end (place p bs) = p - 1 + length bs

-- bytes placed one after the other all stand
abbrev pub InRow : List Placed → Type 0
InRow [] = Unit
InRow (q ∷ qs) = All (λ (r : Placed). end q ≤ start r) qs × InRow qs

row_outside : (a n : ℕ) (qs : List Placed) → All (λ (r : Placed). a + n ≤ start r) qs → All (Outside a n) qs
row_outside a n [] after = tt
row_outside a n (place p bs ∷ qs) after = (inl after.0, row_outside a n qs after.1)

pub row_stands : (ps : List Placed) (xs : List ℕ) → All Fits ps → length xs ≡ 120 → InRow ps → All (Matches (fill ps xs)) ps
unfolding fill
row_stands [] xs fits whole row = tt
row_stands (place p bs ∷ ps) xs fits whole row =
    let within : p - 1 + length bs ≤ length xs = omega (arith, fits.0) in
    let size : length (put (p - 1) bs xs) ≡ 120 = put-length (p - 1) bs xs within ∙ whole in
    (fill_outside (p - 1) (length bs) ps (put (p - 1) bs xs) fits.1 size (row_outside (p - 1) (length bs) ps row.0) ∙ part-put (p - 1) bs xs within, row_stands ps (put (p - 1) bs xs) fits.1 size row.1)
