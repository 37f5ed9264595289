-- Tests on bytes. Assumes nothing.
use Rattle.std.specs.Prelude.{ℕ, Bool, true, false, ◌&&◌, List, [], ◌∷◌, eqb}
use Rattle.sequences.specs.Every.{every}

abbrev pub is_blank_byte : ℕ → Bool
is_blank_byte b = eqb b 32

-- all blanks: the opposite of document 01's "present"
abbrev pub is_blank : List ℕ → Bool
is_blank bs = every is_blank_byte bs

-- the same bytes, and as many
unfoldable pub is_equal : List ℕ → List ℕ → Bool
is_equal [] [] = true
is_equal [] (y ∷ ys) = false
is_equal (x ∷ xs) [] = false
is_equal (x ∷ xs) (y ∷ ys) = eqb x y && is_equal xs ys
