-- `fields::is_amount` meets its contract. Assumes nothing.
use mathlib.Core.Path.{◌≡◌}
use native.Mathlib.Omega.{arith}
use borrow.Author.Tests.{ne_eqb}
use Rattle.fields.proofs.amount.is_amount.Goals as goal

pub returns-then-cents-gt0 : goal.returns-then-cents-gt0
returns-then-cents-gt0 c =
    let some : c.args.cents ≡ 0 → ⊥ = omega arith in
    rw (ne_eqb _ 0 some)

pub returns-else-cents-gt0 : goal.returns-else-cents-gt0
returns-else-cents-gt0 c =
    let none : c.args.cents ≡ 0 = omega arith in
    rw none
