-- A part of a list that is copied over. Assumes nothing.
use Prim.Native.Nat.{ℕ, ◌-◌, ◌≤◌}
use mathlib.Core.List.{List, ◌++◌, append-nil}
use mathlib.Core.Path.{◌≡◌, ◌∙◌, ap}
use native.Mathlib.Omega.{arith}
use lib.ListN.{length, take, drop, drop_of_length-le}
use lib.Seq.{take-length}
use borrow.Rule.Slice.PartMut.{put_mid}
use Rattle.sequences.specs.Part.{part, put}
use Rattle.sequences.proofs.Part.{part_length, lent_is_put}

-- bytes that are copied to a part of their length, lent so, are written over
pub copied_over :
    (a e : ℕ) (xs ys back : List ℕ) → a ≤ e → e ≤ length xs → length ys ≡ e - a
    → back ≡ take (length ys) ys ++ drop (length ys) (part a (e - a) xs) → put_mid a (e - a) xs back ≡ put a ys xs
copied_over a e xs ys back begins ends size came =
    let lent : length (part a (e - a) xs) ≤ length ys = omega (arith, part_length a (e - a) xs (omega arith)) in
    let whole : back ≡ ys = came ∙ rw (take-length, drop_of_length-le (part a (e - a) xs) lent, append-nil) in
    ap (put_mid a (e - a) xs) whole ∙ lent_is_put a e xs ys size
