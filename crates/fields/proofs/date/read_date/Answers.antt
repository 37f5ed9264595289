-- `fields::read_date` meets its contract. Assumes nothing.
use Prim.Native.Nat.{ℕ}
use mathlib.Core.Path.{◌≡◌, sym}
use mathlib.Core.Bool.{Bool, cond}
use mathlib.Core.List.{List}
use lib.ListN.{length}
use borrow.Author.Rules.{rules}
use borrow.Author.Tests.{ne_eqb}
use Rattle.std.specs.Prelude.{Err}
use Rattle.fields.specs.FieldVerdict.{accepted, refused, no_such_day}
use Rattle.fields.specs.Calendar.{is_day}
use Rattle.fields.specs.Digits.{digit_field}
use Rattle.fields.specs.Date.{date_field}
use Rattle.fields.proofs.Dates.{day_from, date_field-number, date_field-refused}
use Rattle.fields.proofs.date.read_date.Goals as goal

pub returns-then-field-ne6 : goal.returns-then-field-ne6
unfolding date_field
returns-then-field-ne6 c = simp (ne_eqb _ 6 c.if-field-ne6.true)

pub returns-in_err-n : goal.returns-in_err-n
returns-in_err-n c =
    let passed_on : c.from_residual.result ≡ Err c.in_err-n.field-0.0 = search rules in
    rw passed_on (sym (date_field-refused _ c.if-field-ne6.false _ (sym c.in_err-n.ensures)))

-- of six digits the calendar decides
decided :
    (field : List ℕ) (n : ℕ) (right : Bool) → length field ≡ 6 → digit_field field ≡ accepted n → right ≡ is_day (day_from n).day (day_from n).month (day_from n).year →
    date_field field ≡ cond right (accepted (day_from n)) (refused no_such_day)
decided field n right six read held = rw held (date_field-number field six n read)

pub returns-then-is_real : goal.returns-then-is_real
returns-then-is_real c = rw (decided _ _ _ c.if-field-ne6.false (sym c.in_ok-n.ensures) c.is_real.ensures, c.if-is_real.true)

pub returns-else-is_real : goal.returns-else-is_real
returns-else-is_real c = rw (decided _ _ _ c.if-field-ne6.false (sym c.in_ok-n.ensures) c.is_real.ensures, c.if-is_real.false)
