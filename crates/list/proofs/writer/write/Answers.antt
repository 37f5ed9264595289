-- `list::write` meets its contract. Assumes nothing.
use mathlib.Core.Path.{◌≡◌, sym, ap}
use native.Mathlib.Omega.{arith}
use Rattle.flow.specs.declared.answer.Totals.{Totals}
use Rattle.std.proofs.Common.{rules}
use Rattle.std.specs.Prelude.{Err}
use Rattle.list.specs.Encode.{encode}
use Rattle.list.specs.Items.{items_in}
use Rattle.list.specs.Write.{write}
use Rattle.list.proofs.Answered.{filled_refused, filled_accepted}
use Rattle.list.proofs.Written.{writable}
use Rattle.list.proofs.writer.write.Goals as goal

pub returns-in_err-totals : goal.returns-in_err-totals
unfolding write
returns-in_err-totals c =
    let passed_on : c.from_residual.result ≡ Err c.in_err-totals.field-0.0 = search rules in
    rw passed_on (filled_refused _ _ _ c.in_err-totals.ensures)

pub store_items-requires-clause-listed : goal.store_items-requires-clause-listed
store_items-requires-clause-listed c = (writable _ _ _ (sym c.in_ok-totals.ensures)).listed

pub store_items-requires-clause-list_in_bounds : goal.store_items-requires-clause-list_in_bounds
store_items-requires-clause-list_in_bounds c = (writable _ _ _ (sym c.in_ok-totals.ensures)).roomy

pub store_items-requires-clause-totals_value : goal.store_items-requires-clause-totals_value
store_items-requires-clause-totals_value c = (writable _ _ _ (sym c.in_ok-totals.ensures)).totals

pub overflow_mul-result : goal.overflow_mul-result
overflow_mul-result c =
    let so = writable _ _ _ (sym c.in_ok-totals.ensures) in
    omega (arith, so.listed.few, ap (λ (t : Totals). t.records) so.totals)

pub returns : goal.returns
unfolding write
returns c =
    let so = writable _ _ _ (sym c.in_ok-totals.ensures) in
    filled_accepted _ (encode (items_in c.args.list.now)) _ _ c.in_ok-totals.ensures so.size c.store_items.ensures
