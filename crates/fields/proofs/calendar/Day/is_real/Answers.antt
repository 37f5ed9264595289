-- `fields::Day::is_real` meets its contract. Assumes nothing.
use Prim.Native.Nat.{◌≤◌}
use mathlib.Core.Path.{◌≡◌}
use native.Mathlib.Omega.{arith}
use borrow.Author.Tests.{le-leb}
use Rattle.fields.specs.Calendar.{is_day}
use Rattle.fields.proofs.calendar.Day.is_real.Goals as goal

pub returns-then-self-gt0 : goal.returns-then-self-gt0
unfolding is_day
returns-then-self-gt0 c =
    let some : 1 ≤ c.args.self.day = omega arith in
    rw (le-leb 1 _ some, c.days_in.ensures)

pub returns-else-self-gt0 : goal.returns-else-self-gt0
unfolding is_day
returns-else-self-gt0 c =
    let none : c.args.self.day ≡ 0 = omega arith in
    rw none
