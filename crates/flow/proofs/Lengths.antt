-- The lengths of a flow. Assumes nothing.
use Prim.Native.Nat.{ℕ, ◌%◌}
use mathlib.Core.Bool.{true, ◌&&◌, and-eq-true_iff}
use mathlib.Core.Path.{◌≡◌}
use lib.Dec.{leb, eqb}
use borrow.Author.Tests.{leb-true, eqb-true}
use Rattle.flow.specs.Records.{RightLength, is_length, most_bytes}

-- what the test of a length says
pub length-said : (n : ℕ) → is_length n ≡ true → RightLength n
length-said n e =
    let both = (and-eq-true_iff (leb 1 n && eqb (n % 120) 0) (leb n most_bytes)).0 e in
    let first = (and-eq-true_iff (leb 1 n) (eqb (n % 120) 0)).0 both.0 in
    (leb-true 1 n first.0, eqb-true (n % 120) 0 first.1, leb-true n most_bytes both.1)
