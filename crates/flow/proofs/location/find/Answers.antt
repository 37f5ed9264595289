-- `flow::find` meets its contract. Assumes nothing.
use mathlib.Core.Path.{◌≡◌, sym}
use Rattle.std.proofs.Common.{rules}
use Rattle.std.specs.Prelude.{Err}
use Rattle.flow.proofs.FindWithTotals.{find-reads, find_with_totals_exact}
use Rattle.flow.proofs.location.find.Goals as goal

pub returns-in_err-found : goal.returns-in_err-found
returns-in_err-found c =
    let passed_on : c.from_residual.result ≡ Err c.in_err-found.field-0.0 = search rules in
    rw passed_on (sym (((find_with_totals_exact _ _).1 _).0 (sym c.in_err-found.ensures)))

pub returns : goal.returns
returns c = sym (find-reads _ _ (sym c.in_ok-found.ensures)).1
