-- `fields::write_digits` meets its contract. The digits of rest, and then what is written from i on, are those of the whole. Assumes nothing.
use Prim.Native.Nat.{suc, ◌-◌, ◌<◌}
use mathlib.Core.Path.{◌≡◌, ◌∙◌}
use mathlib.Core.List.{append-nil}
use native.Mathlib.Omega.{arith}
use lib.ListN.{length}
use lib.Seq.{drop-length}
use Rattle.fields.specs.Digits.{digits}
use Rattle.fields.proofs.Decimal.{digits_store}
use Rattle.fields.proofs.digits.write_digits.Goals as goal

pub loop-i-init : goal.loop-i-init
loop-i-init c = rw (drop-length, append-nil)

pub loop-i-preserved : goal.loop-i-preserved
loop-i-preserved c =
    let at = c.loop-i in
    let one : suc (at.i - 1) ≡ at.i = omega arith in
    let within : at.i - 1 < length at.out = omega arith in
    digits_store (at.i - 1) at.rest at.out within ∙ rw one at.invariant

pub returns : goal.returns
unfolding digits
returns c =
    let none : c.loop-i.i ≡ 0 = omega arith in
    rw none at c.loop-i.invariant
