-- `evenings::judge_pair` meets its contract. Assumes nothing.
use mathlib.Core.Path.{◌≡◌, sym}
use Rattle.std.proofs.Common.{rules}
use Rattle.std.specs.Prelude.{Err}
use Rattle.evenings.specs.Pair.{judge_pair}
use Rattle.evenings.proofs.pair.judge_pair.Goals as goal

pub returns-in_err-old_totals : goal.returns-in_err-old_totals
unfolding judge_pair
returns-in_err-old_totals c =
    let passed_on : c.from_residual.result ≡ Err c.in_err-old_totals.field-0.0 = search rules in
    rw (passed_on, sym c.in_err-old_totals.ensures)

pub returns-in_err-new_totals : goal.returns-in_err-new_totals
unfolding judge_pair
returns-in_err-new_totals c =
    let passed_on : c.from_residual-in_err-new_totals.result ≡ Err c.in_err-new_totals.field-0.0 = search rules in
    rw (passed_on, sym c.in_ok-old_totals.ensures, sym c.in_err-new_totals.ensures)

pub returns : goal.returns
unfolding judge_pair
returns c = rw (sym c.in_ok-old_totals.ensures, sym c.in_ok-new_totals.ensures) c.fit.ensures
