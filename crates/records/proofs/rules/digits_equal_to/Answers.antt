-- `records::digits_equal_to` meets its contract. Assumes nothing.
use mathlib.Core.List.{[], ◌∷◌}
use mathlib.Core.Path.{◌≡◌}
use Rattle.std.specs.Prelude.{Err}
use Rattle.std.proofs.Common.{rules}
use Rattle.records.specs.RecordVerdict.{check}
use Rattle.records.proofs.FirstFault.{ends_first, goes_on}
use Rattle.records.proofs.rules.digits_equal_to.Goals as goal

pub returns-in_err-found : goal.returns-in_err-found
returns-in_err-found c =
    let passed_on : c.from_residual.result ≡ Err c.in_err-found.field-0.0 = search rules in
    rw passed_on (ends_first (check _ _ _ ∷ []) (check _ _ _ ∷ []) _ c.in_err-found.ensures.checked)

pub returns : goal.returns
returns c = goes_on (check _ _ _ ∷ []) (check _ _ _ ∷ []) _ c.in_ok-found.ensures.checked (rw c.in_ok-found.ensures.value at c.check.ensures)
