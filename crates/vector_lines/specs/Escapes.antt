-- Bytes as text: each stands for itself, but a backslash and two hexadecimal digits for the byte with that value. Assumes nothing.
use Rattle.std.specs.Prelude.{ℕ, ◌+◌, ◌*◌, cond, List, [], ◌∷◌, eqb, take}
use Rattle.vector_lines.specs.Texts.{hex_digit}

-- the bytes that a text encodes: a backslash with fewer than two bytes after it stands for itself too
unfoldable pub unescaped : List ℕ → List ℕ
unescaped [] = []
unescaped (b ∷ []) = b ∷ []
unescaped (b ∷ c ∷ []) = b ∷ c ∷ []
unescaped (b ∷ c ∷ d ∷ bs) = cond (eqb b 92) ((16 * hex_digit c + hex_digit d) ∷ unescaped bs) (b ∷ unescaped (c ∷ d ∷ bs))

-- as many of them as n places hold
abbrev pub fitting : ℕ → List ℕ → List ℕ
fitting n bs = take n (unescaped bs)
