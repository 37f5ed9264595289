-- `fields::calendar::days_in` meets its contract. Assumes nothing.
use Prim.Native.Nat.{ℕ, ◌+◌, ◌-◌}
use mathlib.Core.Path.{◌≡◌, ◌∙◌, ap}
use native.Mathlib.Omega.{arith}
use lib.ListN.{get_or, drop, get_or-eq_default}
use lib.Seq.{get_or-drop}
use borrow.Author.Tests.{ne_eqb}
use borrow.Author.Rules.{rules}
use Rattle.fields.specs.Calendar.{days_in, common_year}
use Rattle.fields.proofs.calendar.days_in.Goals as goal
use Rattle.fields.proofs.calendar.days_in.Goals.{then-month-eq0-via-then-month-eq0, then-month-eq0-via-else-month-eq0+then-month-gt12, else-month-eq2-via-then-month-eq2+else-leap, else-month-eq2-via-else-month-eq2}

pub returns-then-month-eq0 : goal.returns-then-month-eq0
unfolding days_in
returns-then-month-eq0 c = elim c.then-month-eq0.branch [
  | then-month-eq0-via-then-month-eq0 w ↦ rw w.if-month-eq0.true
  | then-month-eq0-via-else-month-eq0+then-month-gt12 w ↦
      let other : c.args.month ≡ 2 → ⊥ = omega arith in
      rw (get_or-eq_default common_year 0 w.if-month-gt12.true, ne_eqb _ 2 other)
]

-- What is read from the code's table is the definition's entry for the month. `same_table` is the test, of the whole table: the checker
-- computes the definition's from January on and compares the two. `get_or-drop` makes of it the rule at each month.
month_length : (days month : ℕ) → ¬ (month ≡ 0) → days ≡ get_or (drop 1 common_year) (month - 1) 0 → days ≡ get_or common_year month 0
month_length days month some same_table =
    let place : 1 + (month - 1) ≡ month = omega arith in
    same_table ∙ get_or-drop 1 common_year (month - 1) 0 ∙ ap (λ (m : ℕ). get_or common_year m 0) place

pub overflow_add-result : goal.overflow_add-result
overflow_add-result c =
    let february : c.args.month ≡ 2 = c.if-month-eq2.true in
    rw (month_length _ _ c.if-month-eq0.false c.from-days.ensures, february) (search rules)

pub returns-then-leap : goal.returns-then-leap
unfolding days_in
returns-then-leap c = rw (month_length _ _ c.if-month-eq0.false c.from-days.ensures, c.if-month-eq2.true, ← c.leap.ensures, c.if-leap.true)

pub returns : goal.returns
unfolding days_in
returns c =
    let month = c.args.month in
    month_length _ _ c.if-month-eq0.false c.from-days.ensures
    ∙ elim c.else-month-eq2.branch [
      | else-month-eq2-via-then-month-eq2+else-leap w ↦ rw (w.if-month-eq2.true, ← w.leap.ensures, w.if-leap.false)
      | else-month-eq2-via-else-month-eq2 w ↦ rw (ne_eqb month 2 w.if-month-eq2.false) (omega arith)
    ]
