-- Lines and hexadecimal digits, as the vector files have them. Assumes nothing.
use Rattle.std.specs.Prelude.{ℕ, ◌-◌, cond, ◌&&◌, List, [], ◌∷◌, eqb, leb}

-- the lines of which the first one, or the only one, has the byte b before it
abbrev pub led : ℕ → List (List ℕ) → List (List ℕ)
led b [] = (b ∷ []) ∷ []
led b (line ∷ lines) = (b ∷ line) ∷ lines

-- the lines of a text, without their line feeds: none follows the last line feed where no byte does
unfoldable pub line_list : List ℕ → List (List ℕ)
line_list [] = []
line_list (b ∷ bs) = cond (eqb b 10) ([] ∷ line_list bs) (led b (line_list bs))

-- `0` to `9` and `a` to `f`; 0 for any other byte
abbrev pub hex_digit : ℕ → ℕ
hex_digit b = cond (leb 48 b && leb b 57) (b - 48) (cond (leb 97 b && leb b 102) (b - 87) 0)
