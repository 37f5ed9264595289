-- Laws of `unescaped`, for a loop that writes: the first byte, then the rest; and what the places written so far say of the whole. Assumes nothing.
use Rattle.std.proofs.Common.{ℕ, ◌+◌, ◌*◌, ◌-◌, ◌≤◌, ◌<◌, ◌≡◌, ◌≢◌, refl, sym, ap, ◌∙◌, List, [], ◌∷◌, ◌++◌, arith, length, take, drop, set, get_or, append_assoc, append-nil, add-one, zero-add, eq-eqb, ne_eqb}
use lib.ListN.{length-set, length-drop, take-append-drop}
use lib.Seq.{take-suc-set, drop-set-lt, drop-drop, length-take-le, take_all, take_at}
use Rattle.sequences.specs.Part.{put}
use Rattle.vector_lines.specs.Escapes.{unescaped, fitting}
use Rattle.vector_lines.specs.Texts.{hex_digit}

-- what is lent as `&bs[at..]`
pub lent_rest : (bs : List ℕ) (at : ℕ) → take (length bs - at) (drop at bs) ≡ drop at bs
lent_rest bs at = take_all (length bs - at) (drop at bs) (rw length-drop (omega arith))

-- Where the places below n of `out` are written, which began as `begun`, and `rest` is left of the text bs.
pub record Decoding (bs begun out rest : List ℕ) (n : ℕ) : Type 0 where
  pub fits : n ≤ length out
  pub same : length out ≡ length begun
  pub written : take n out ++ unescaped rest ≡ unescaped bs
  pub kept : drop n out ≡ drop n begun

module _ {bs begun : List ℕ} where
  pub decoding_begins : Decoding bs begun begun bs 0
  decoding_begins = record { fits = omega arith; same = refl; written = refl; kept = refl }

  -- one byte more
  pub decoding_next : {out rest after : List ℕ} {n b : ℕ} → Decoding bs begun out rest n → n < length out → unescaped rest ≡ b ∷ unescaped after → Decoding bs begun (set out n b) after (n + 1)
  decoding_next {out} {rest} {after} {n} {b} d room first =
      let stored : take (n + 1) (set out n b) ≡ take n out ++ (b ∷ []) = rw add-one (take-suc-set out n b room) in
      record {
        fits = rw length-set (omega arith);
        same = length-set out n b ∙ d.same;
        written = rw (stored, append_assoc, ← first) d.written;
        kept = drop-set-lt (n + 1) out n b (omega arith) ∙ sym (drop-drop 1 n out) ∙ ap (drop 1) d.kept ∙ drop-drop 1 n begun;
      }

  -- where nothing is left, or no place, what has been written is all that fits
  pub decoding_ends : {out rest : List ℕ} {n : ℕ} → Decoding bs begun out rest n → unescaped rest ≡ [] → take n out ≡ fitting (length begun) bs
  decoding_ends {out} {rest} {n} d nothing =
      let whole : take n out ≡ unescaped bs = sym (append-nil (take n out)) ∙ rw nothing at d.written in
      let within : length (take n out) ≤ length begun = rw (length-take-le n out d.fits) (omega arith) in
      rw (← whole) (sym (take_all (length begun) (take n out) within))

  pub decoding_full : {out rest : List ℕ} {n : ℕ} → Decoding bs begun out rest n → n ≡ length out → take n out ≡ fitting (length begun) bs
  decoding_full {out} {rest} {n} d full =
      let all : length (take n out) ≡ length begun = length-take-le n out d.fits ∙ full ∙ d.same in
      sym (take_at (take n out) (unescaped rest) (length begun) all) ∙ ap (take (length begun)) d.written

  -- and the places written, with those after them, are `out`
  pub decoding_put : {out rest : List ℕ} {n : ℕ} → Decoding bs begun out rest n → take n out ≡ fitting (length begun) bs → out ≡ put 0 (fitting (length begun) bs) begun
  decoding_put {out} {rest} {n} d e = rw (← e, length-take-le n out d.fits, zero-add, ← d.kept, take-append-drop)

-- what the first byte of a text decides
pub none_left : (xs : List ℕ) → length xs ≡ 0 → unescaped xs ≡ []
unfolding unescaped
none_left [] e = refl
none_left (b ∷ bs) e = absurd (omega arith)

pub escape_first : (xs after : List ℕ) (b : ℕ) → xs ≡ b ∷ after → 2 ≤ length after → b ≡ 92 → unescaped xs ≡ (16 * hex_digit (get_or after 0 0) + hex_digit (get_or after 1 0)) ∷ unescaped (take (length after - 2) (drop 2 after))
unfolding unescaped
escape_first xs [] b e long is = absurd (omega arith)
escape_first xs (c ∷ []) b e long is = absurd (omega arith)
escape_first xs (c ∷ d ∷ bs) b e long is = rw (e, lent_rest (c ∷ d ∷ bs) 2, eq-eqb b 92 is) refl

pub byte_first : (xs after : List ℕ) (b : ℕ) → xs ≡ b ∷ after → b ≢ 92 → unescaped xs ≡ b ∷ unescaped after
unfolding unescaped
byte_first xs [] b e is = rw e refl
byte_first xs (c ∷ []) b e is = rw e refl
byte_first xs (c ∷ d ∷ bs) b e is = rw (e, ne_eqb b 92 is) refl

pub byte_near_end : (xs after : List ℕ) (b : ℕ) → xs ≡ b ∷ after → length after < 2 → unescaped xs ≡ b ∷ unescaped after
unfolding unescaped
byte_near_end xs [] b e near = rw e refl
byte_near_end xs (c ∷ []) b e near = rw e refl
byte_near_end xs (c ∷ d ∷ bs) b e near = absurd (omega arith)
