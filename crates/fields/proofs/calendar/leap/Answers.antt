-- `fields::calendar::leap` meets its contract. Assumes nothing.
use Prim.Native.Nat.{◌%◌}
use mathlib.Core.Path.{◌≡◌}
use mathlib.Core.Bool.{or-false}
use native.Mathlib.Omega.{arith}
use borrow.Author.Tests.{eq-eqb, ne_eqb}
use Rattle.fields.specs.Calendar.{is_leap}
use Rattle.fields.proofs.calendar.leap.Goals as goal

pub returns-then-year-eq0 : goal.returns-then-year-eq0
unfolding is_leap
returns-then-year-eq0 c =
    let year = c.args.year in
    let century : year % 100 ≡ 0 = omega arith in
    let fourth : year % 4 ≡ 0 = omega arith in
    simp (eq-eqb _ 0 c.if-year-eq0.true, eq-eqb _ 0 century, eq-eqb _ 0 fourth)

pub returns-then-year-eq0-2 : goal.returns-then-year-eq0-2
unfolding is_leap
returns-then-year-eq0-2 c = simp (ne_eqb _ 0 c.if-year-eq0.false, eq-eqb _ 0 c.if-year-eq0-2.true, or-false)

pub returns-else-year-eq0-2 : goal.returns-else-year-eq0-2
unfolding is_leap
returns-else-year-eq0-2 c = simp (ne_eqb _ 0 c.if-year-eq0.false, ne_eqb _ 0 c.if-year-eq0-2.false)
