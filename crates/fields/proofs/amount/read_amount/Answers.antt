-- `fields::read_amount` meets its contract. Assumes nothing.
use Prim.Native.Nat.{ℕ}
use mathlib.Core.Path.{◌≡◌, sym}
use mathlib.Core.Bool.{Bool, cond}
use mathlib.Core.List.{List}
use lib.ListN.{length}
use borrow.Author.Rules.{rules}
use borrow.Author.Tests.{ne_eqb}
use Rattle.std.specs.Prelude.{Err}
use Rattle.fields.specs.Digits.{digit_field}
use Rattle.fields.specs.Amount.{is_amount, amount_field}
use Rattle.fields.specs.FieldVerdict.{accepted, refused, zero_amount}
use Rattle.fields.proofs.Amounts.{amount_field-number, amount_decided, amount_field-refused}
use Rattle.fields.proofs.amount.read_amount.Goals as goal

pub returns-then-field-ne13 : goal.returns-then-field-ne13
unfolding amount_field
returns-then-field-ne13 c = simp (ne_eqb _ 13 c.if-field-ne13.true)

pub returns-in_err-cents : goal.returns-in_err-cents
returns-in_err-cents c =
    let passed_on : c.from_residual.result ≡ Err c.in_err-cents.field-0.0 = search rules in
    rw passed_on (sym (amount_field-refused _ c.if-field-ne13.false _ (sym c.in_err-cents.ensures)))

-- of thirteen digits it decides whether they can be asked for
decided :
    (field : List ℕ) (n : ℕ) (right : Bool) → length field ≡ 13 → digit_field field ≡ accepted n → right ≡ is_amount n →
    amount_field field ≡ cond right (accepted n) (refused zero_amount)
decided field n right thirteen read held = rw (held, amount_decided field thirteen n read) (amount_field-number field thirteen n read)

pub returns-then-is_amount : goal.returns-then-is_amount
returns-then-is_amount c = rw (decided _ _ _ c.if-field-ne13.false (sym c.in_ok-cents.ensures) c.is_amount.ensures, c.if-is_amount.true)

pub returns-else-is_amount : goal.returns-else-is_amount
returns-else-is_amount c = rw (decided _ _ _ c.if-field-ne13.false (sym c.in_ok-cents.ensures) c.is_amount.ensures, c.if-is_amount.false)
