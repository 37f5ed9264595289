-- The bytes that a record may have (document 01, "The flow as bytes", last sentence). Assumes nothing.
use Rattle.std.specs.Prelude.{ℕ, suc, Bool, cond, ◌&&◌, List, [], ◌∷◌, leb}

abbrev pub is_printable : ℕ → Bool
is_printable b = leb 32 b && leb b 126

-- the position of the first byte outside 32 to 126, where the first of bs stands at position p: 0 where there is none
unfoldable pub bad_from : ℕ → List ℕ → ℕ
bad_from p [] = 0
bad_from p (b ∷ bs) = cond (is_printable b) (bad_from (suc p) bs) p

abbrev pub bad_byte : List ℕ → ℕ
bad_byte rec = bad_from 1 rec
