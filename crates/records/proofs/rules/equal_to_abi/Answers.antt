-- `records::equal_to_abi` meets its contract. Assumes nothing.
use mathlib.Core.List.{[], ◌∷◌}
use mathlib.Core.Path.{◌≡◌}
use Rattle.std.specs.Prelude.{Err}
use Rattle.std.proofs.Common.{rules}
use Rattle.records.specs.RecordVerdict.{check}
use Rattle.records.proofs.FirstFault.{ends_first, goes_on}
use Rattle.records.proofs.rules.equal_to_abi.Goals as goal

pub returns-in_err-digits : goal.returns-in_err-digits
returns-in_err-digits c =
    let passed_on : c.from_residual.result ≡ Err c.in_err-digits.field-0.0 = search rules in
    rw passed_on (ends_first (check _ _ _ ∷ []) (check _ _ _ ∷ []) _ c.in_err-digits.ensures.checked)

pub returns : goal.returns
returns c = goes_on (check _ _ _ ∷ []) (check _ _ _ ∷ []) _ c.in_ok-digits.ensures.checked (rw (c.same-own.ensures, c.field.ensures.bytes) at c.check.ensures)
