-- The cases of an enum that a match leaves, by their tags. Assumes nothing.
use Prim.Native.Nat.{ℕ}
use mathlib.Core.Bool.{Bool, true, false, not, ◌||◌}
use mathlib.Core.List.{List}
use mathlib.Core.Path.{◌≡◌, refl}
use mir.Val.{has_key}
use types.Run.{OneOf, miss}

-- a test fails at the tag, or the tag is not listed: it fails where the tag is listed
pub fails_listed : (tags : List ℕ) (tag : ℕ) (b : Bool) → (not b || not (has_key tags tag)) ≡ true → OneOf tags tag → false ≡ b
fails_listed tags tag b h listed = by b (has_key tags tag) refl h
  where
    by : (b c : Bool) → has_key tags tag ≡ c → (not b || not c) ≡ true → false ≡ b
    by false c e h = refl
    by true true e h = h
    by true false e h = absurd (miss tags tag (rw e tt) listed)
