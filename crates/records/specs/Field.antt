-- The fields of a record by position (document 01, "The flow as bytes": positions count from 1 to 120). Assumes nothing.
use Rattle.std.specs.Prelude.{ℕ, ◌-◌, cond, ◌&&◌, List, ltb, length, get_or}
use Rattle.sequences.specs.Part.{part, put}
use Rattle.fields.specs.Digits.{digits}

-- positions a to e, both with
abbrev pub field : ℕ → ℕ → List ℕ → List ℕ
field a e rec = part (a - 1) (e - (a - 1)) rec

-- the index in the record at which they start; 0 where the record has none of them
abbrev pub field_start : ℕ → ℕ → List ℕ → ℕ
field_start a e rec = cond (ltb (a - 1) e && ltb (a - 1) (length rec)) (a - 1) 0

-- positions first to last, both with, as document 01 writes them
infix 30 ◌to◌
pub data Span : Type 0 where
  ◌to◌ : ℕ → ℕ → Span

-- the first of them, and the last
abbrev pub first_of : Span → ℕ
first_of (a to e) = a

abbrev pub last_of : Span → ℕ
last_of (a to e) = e

-- how many there are
abbrev pub width : Span → ℕ
width (a to e) = e - (a - 1)

-- what stands there
abbrev pub field_at : Span → List ℕ → List ℕ
field_at (a to e) rec = field a e rec

-- the record with the digits of a number written over them, zeros in front; where it is shorter, over what there is of them
abbrev pub number_written : Span → ℕ → List ℕ → List ℕ
number_written (a to e) v rec = put (field_start a e rec) (digits (length (field a e rec)) v) rec

-- the byte at position p
abbrev pub byte_at : ℕ → List ℕ → ℕ
byte_at p rec = get_or rec (p - 1) 0
