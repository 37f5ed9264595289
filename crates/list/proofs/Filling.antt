-- A record filled by the code: place after place, and a body over its spans. Assumes nothing.
use Prim.Native.Nat.{ℕ, ◌+◌, ◌-◌, ◌≤◌}
use mathlib.Core.List.{List, [], ◌∷◌, ◌++◌, map}
use mathlib.Core.Path.{◌≡◌, refl, sym, ◌∙◌, ap}
use native.Mathlib.Omega.{arith}
use lib.ListN.{length, take, drop, length-drop}
use lib.Seq.{length-take-le}
use Rattle.sequences.specs.Part.{put}
use Rattle.sequences.specs.Sum.{sum}
use Rattle.sequences.specs.All.{All}
use Rattle.sequences.proofs.Part.{put-length}
use Rattle.list.proofs.TableSpans.{Within}
use Rattle.fields.specs.Digits.{digits}
use Rattle.records.specs.Field.{Span, ◌to◌, width, number_written}
use Rattle.records.proofs.NumberWritten.{written-within}
use Rattle.list.specs.Encode.{Placed, place, fill, body_placed}
use Rattle.list.proofs.Placing.{fill-append}

-- a run of the code that fills the places in order: `out` is what it leaves of the record
pub record Fills (ps : List Placed) (rec out : List ℕ) : Type 0 where
  pub done : out ≡ fill ps rec

pub fills_none : {rec : List ℕ} → Fills [] rec rec
unfolding fill
fills_none = record { done = refl }

-- one place, and then the others; the bytes may be known under another name
pub fills_place : {p : ℕ} {bs cs : List ℕ} {ps : List Placed} {rec after out : List ℕ} → after ≡ put (p - 1) cs rec → cs ≡ bs → Fills ps after out → Fills (place p bs ∷ ps) rec out
unfolding fill
fills_place {p} {ps = ps} {rec = rec} here same rest = record { done = rest.done ∙ ap (fill ps) (here ∙ ap (λ (l : List ℕ). put (p - 1) l rec) same) }

-- a number in a field that the record has, likewise
pub fills_number :
    (a e v : ℕ) {ps : List Placed} {rec after out : List ℕ} → after ≡ number_written (a to e) v rec → a - 1 ≤ e → e ≤ length rec → Fills ps after out
    → Fills (place a (digits (width (a to e)) v) ∷ ps) rec out
fills_number a e v {rec = rec} here ordered within rest = fills_place (here ∙ written-within a e v rec ordered within) refl rest

-- two lists of places, one after the other
pub fills_both : {ps qs : List Placed} {rec after out : List ℕ} → Fills ps rec after → Fills qs after out → Fills (ps ++ qs) rec out
fills_both {ps} {qs} {rec} front back = record { done = back.done ∙ ap (fill qs) front.done ∙ sym (fill-append ps qs rec) }

-- a turn of the code that places a body: the spans that are left, with the rest of the body, make `out` of the record
pub record BodyLeft (ss : List Span) (rest rec out : List ℕ) : Type 0 where
  pub left : out ≡ fill (body_placed ss rest) rec
  pub widths : sum (map width ss) ≡ length rest
  pub within : All Within ss
  pub whole : length rec ≡ 120

-- in a turn: the bytes of the first span, and the place that it has for them
pub body_turn : {a e : ℕ} {ss : List Span} {rest rec out : List ℕ} → BodyLeft ((a to e) ∷ ss) rest rec out → (e + 1 - a ≡ width (a to e)) × (width (a to e) ≤ length rest) × (1 ≤ a) × (a - 1 + width (a to e) ≤ 120)
body_turn p =
    let starts = p.within.0.starts in
    let ordered = p.within.0.ordered in
    let ends = p.within.0.ends in
    let widths = p.widths in
    (omega arith, omega arith, starts, omega arith)

-- one span placed, and none left
pub span_placed :
    {a e n : ℕ} {ss : List Span} {rest rec after out : List ℕ} → n ≡ width (a to e) → after ≡ put (a - 1) (take n rest) rec → BodyLeft ((a to e) ∷ ss) rest rec out
    → BodyLeft ss (drop n rest) after out
unfolding fill body_placed
span_placed {a} {e} {n} {ss} {rest} {rec} {after} {out} same here p =
    let t = body_turn p in
    let widths = p.widths in
    let whole = p.whole in
    let taken : length (take n rest) ≡ n = length-take-le n rest (omega (arith, t.1)) in
    let next : out ≡ fill (body_placed ss (drop n rest)) (put (a - 1) (take n rest) rec) = rw same p.left in
    record { left = next ∙ rw here refl; widths = omega (arith, length-drop n rest); within = p.within.1; whole = rw here (put-length (a - 1) (take n rest) rec (omega (arith, t.3)) ∙ whole) }

pub body_placed_lem : {rest rec out : List ℕ} → BodyLeft [] rest rec out → rec ≡ out
unfolding fill body_placed
body_placed_lem p = sym p.left
