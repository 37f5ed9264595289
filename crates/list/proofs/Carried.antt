-- The carried bytes of a record: gathered from it, and placed in it. Assumes nothing.
use Prim.Native.Nat.{ℕ, ◌+◌, ◌-◌, ◌≤◌}
use mathlib.Core.Bool.{Bool, true, false, cond, ◌&&◌, and-eq-true_iff, true≢false}
use mathlib.Core.List.{List, [], ◌∷◌, ◌++◌, map, flatten}
use mathlib.Core.Logic.{inl}
use mathlib.Core.Path.{◌≡◌, refl, sym, ◌∙◌, ap}
use native.Mathlib.Omega.{arith}
use lib.Dec.{leb}
use lib.ListN.{length, take, drop, length-append, length-drop, take-append-drop}
use lib.Seq.{length-take-le, take_at, drop_at, drop-append-le, take-append-le, drop-append-add}
use borrow.Author.Tests.{leb-true}
use Rattle.sequences.specs.All.{All}
use Rattle.sequences.specs.Part.{part, put}
use Rattle.sequences.specs.Sum.{sum}
use Rattle.sequences.proofs.Part.{part_length, part-put, put-length}
use Rattle.records.specs.Field.{Span, ◌to◌, width, field, first_of}
use Rattle.records.proofs.Checked.{field-within}
use Rattle.list.specs.Encode.{fill, body_placed, index_in}
use Rattle.list.specs.ReadBack.{gather}
use Rattle.list.proofs.Placing.{Fits, Outside, Matches, fill_outside}
use Rattle.list.proofs.TableSpans.{Within, Rising}

-- a body as long as the spans: what of it goes to the first, and the rest
pub split_first : (s : Span) (ss : List Span) (body : List ℕ) → sum (map width (s ∷ ss)) ≡ length body → (length (take (width s) body) ≡ width s) × (sum (map width ss) ≡ length (drop (width s) body))
split_first s ss body e = (length-take-le (width s) body (omega arith), omega (arith, length-drop (width s) body))

-- the places of a body lie where the spans do
pub body-fits : (ss : List Span) (body : List ℕ) → All Within ss → sum (map width ss) ≡ length body → All Fits (body_placed ss body)
unfolding body_placed
body-fits [] body within e = tt
body-fits ((a to f) ∷ ss) body within e =
    let sizes = split_first (a to f) ss body e in
    let ordered = within.0.ordered in
    let ends = within.0.ends in
    let starts = within.0.starts in
    (omega (arith, sizes.0), body-fits ss (drop (width (a to f)) body) within.1 sizes.1)

pub body_outside : (a n : ℕ) (ss : List Span) (body : List ℕ) → All (λ (t : Span). a + n ≤ first_of t - 1) ss → All (Outside a n) (body_placed ss body)
unfolding body_placed
body_outside a n [] body after = tt
body_outside a n ((b to f) ∷ ss) body after = (inl after.0, body_outside a n ss (drop (width (b to f)) body) after.1)

-- a body placed, and gathered again
pub gather_placed : (ss : List Span) (body xs : List ℕ) → All Within ss → Rising ss → sum (map width ss) ≡ length body → length xs ≡ 120 → gather ss (fill (body_placed ss body) xs) ≡ body
unfolding flatten body_placed fill
gather_placed [] [] xs within rising e whole = refl
gather_placed [] (b ∷ body) xs within rising e whole = absurd (omega arith)
gather_placed ((a to f) ∷ ss) body xs within rising e whole =
    let w = width (a to f) in
    let sizes = split_first (a to f) ss body e in
    let ordered = within.0.ordered in
    let ends = within.0.ends in
    let starts = within.0.starts in
    let rest = drop w body in
    let over = put (a - 1) (take w body) xs in
    let fits : a - 1 + length (take w body) ≤ length xs = omega (arith, sizes.0) in
    let size : length over ≡ 120 = put-length (a - 1) (take w body) xs fits ∙ whole in
    let end : a - 1 + w ≡ f = omega arith in
    let after : All (λ (t : Span). a - 1 + w ≤ first_of t - 1) ss = rw end rising.0 in
    let here : field a f (fill (body_placed ss rest) over) ≡ take w body =
    fill_outside (a - 1) w (body_placed ss rest) over (body-fits ss rest within.1 sizes.1) size (body_outside (a - 1) w ss rest after)
    ∙ ap (λ (n : ℕ). part (a - 1) n over) (sym sizes.0)
    ∙ part-put (a - 1) (take w body) xs fits in
    cc (here, gather_placed ss rest over within.1 rising.1 sizes.1 size, take-append-drop w body)

-- what is gathered is as long as its spans
pub span_length : (a f : ℕ) (rec : List ℕ) → Within (a to f) → length rec ≡ 120 → length (field a f rec) ≡ width (a to f)
span_length a f rec within whole =
    let starts = within.starts in
    let ordered = within.ordered in
    let ends = within.ends in
    part_length (a - 1) (width (a to f)) rec (omega arith)

pub gather-length : (ss : List Span) (rec : List ℕ) → All Within ss → length rec ≡ 120 → sum (map width ss) ≡ length (gather ss rec)
unfolding flatten
gather-length [] rec within whole = refl
gather-length ((a to f) ∷ ss) rec within whole =
    let here = span_length a f rec within.0 whole in
    let rest = gather-length ss rec within.1 whole in
    rw length-append (omega arith)

-- and is, placed again, what the record has there
pub gather_matches : (ss : List Span) (rec : List ℕ) → All Within ss → length rec ≡ 120 → All (Matches rec) (body_placed ss (gather ss rec))
unfolding flatten body_placed
gather_matches [] rec within whole = tt
gather_matches ((a to f) ∷ ss) rec within whole =
    let here = span_length a f rec within.0 whole in
    let w = width (a to f) in
    let front : take w (field a f rec ++ gather ss rec) ≡ field a f rec = take_at (field a f rec) (gather ss rec) w here in
    let back : drop w (field a f rec ++ gather ss rec) ≡ gather ss rec = drop_at (field a f rec) (gather ss rec) w here in
    rw (front, back, here) (refl, gather_matches ss rec within.1 whole)

-- positions a to e lie in one of the spans
abbrev pub in_one : List Span → ℕ → ℕ → Bool
in_one [] a e = false
in_one ((b to f) ∷ ss) a e = cond (leb b a && leb a f) (leb a e && leb e f) (in_one ss a e)

-- where what is gathered has them
part_front : (i n : ℕ) (xs ys : List ℕ) → i + n ≤ length xs → part i n (xs ++ ys) ≡ part i n xs
part_front i n xs ys h =
    let within : i ≤ length xs = omega arith in
    let few : n ≤ length (drop i xs) = rw length-drop (omega arith) in
    ap (take n) (drop-append-le i xs ys within) ∙ take-append-le n (drop i xs) ys few

part_back : (i n w : ℕ) (xs ys : List ℕ) → length xs ≡ w → part (w + i) n (xs ++ ys) ≡ part i n ys
part_back i n w xs ys e = ap (λ (m : ℕ). part (m + i) n (xs ++ ys)) (sym e) ∙ ap (take n) (drop-append-add xs ys i)

pub gather_at :
    (ss : List Span) (a e : ℕ) (rec : List ℕ) → All Within ss → length rec ≡ 120 → in_one ss a e ≡ true
    → part (index_in ss a) (width (a to e)) (gather ss rec) ≡ field a e rec
unfolding flatten
gather_at [] a e rec within whole t = absurd (true≢false (sym t))
gather_at ((b to f) ∷ ss) a e rec within whole t = by (leb b a && leb a f) refl t (gather_at ss a e rec within.1 whole)
  where
    here : length (field b f rec) ≡ width (b to f)
    here = span_length b f rec within.0 whole

    by :
        (c : Bool) → (leb b a && leb a f) ≡ c → cond c (leb a e && leb e f) (in_one ss a e) ≡ true
        → (in_one ss a e ≡ true → part (index_in ss a) (width (a to e)) (gather ss rec) ≡ field a e rec)
        → part (cond c (a - b) (width (b to f) + index_in ss a)) (width (a to e)) (field b f rec ++ gather ss rec) ≡ field a e rec
    by true h u rest =
        let from = (and-eq-true_iff (leb b a) (leb a f)).0 h in
        let upto = (and-eq-true_iff (leb a e) (leb e f)).0 u in
        let first-in = leb-true b a from.0 in
        let some = leb-true a e upto.0 in
        let last-in = leb-true e f upto.1 in
        let starts = within.0.starts in
        part_front (a - b) (width (a to e)) (field b f rec) (gather ss rec) (omega (arith, here)) ∙ field-within b f a e rec starts first-in some last-in
    by false h u rest = part_back (index_in ss a) (width (a to e)) (width (b to f)) (field b f rec) (gather ss rec) here ∙ rest u
