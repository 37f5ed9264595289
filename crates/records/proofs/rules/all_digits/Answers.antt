-- `records::all_digits` meets its contract. Assumes nothing.
use mathlib.Core.Path.{◌∙◌}
use Rattle.records.proofs.Settled.{is_ok_settled}
use Rattle.records.proofs.rules.all_digits.Goals as goal

pub returns : goal.returns
returns c = c.is_ok.ensures.value ∙ is_ok_settled _ _ _ _ c.digits.ensures.checked
