-- `records::digits` meets its contract. Assumes nothing.
use mathlib.Core.Path.{◌∙◌, ap}
use Rattle.fields.specs.Digits.{digit_field}
use Rattle.records.proofs.Settled.{digits_settled, digits_given}
use Rattle.records.proofs.rules.digits.Goals as goal

pub returns-clause-checked : goal.returns-clause-checked
returns-clause-checked c = rw c.at.ensures (digits_settled _ c.told-rec _ _ c.requires _ (c.read_digits.ensures ∙ ap digit_field c.field.ensures.bytes))

pub returns-clause-value : goal.returns-clause-value
returns-clause-value c = rw c.at.ensures (digits_given _ c.told-rec _ _ c.requires _ (c.read_digits.ensures ∙ ap digit_field c.field.ensures.bytes))
