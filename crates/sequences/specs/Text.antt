-- A text as the list of its characters' codes: of ASCII text, its bytes. Assumes nothing.
use Rattle.std.specs.Prelude.{List, [], ◌∷◌, get_or, ℕ}
use Prim.Native.Char.{code}
use Prim.Native.String.{String, [] as none, ◌∷◌ as then}

abbrev pub text : String → List ℕ
text none = []
text (then c s) = code c ∷ text s

-- the byte of a text of one character
abbrev pub byte : String → ℕ
byte s = get_or (text s) 0 0
