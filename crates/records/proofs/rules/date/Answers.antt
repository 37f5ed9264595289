-- `records::date` meets its contract. Assumes nothing.
use mathlib.Core.Path.{◌∙◌, ap}
use Rattle.fields.specs.Date.{date_field}
use Rattle.records.proofs.Settled.{date_settled}
use Rattle.records.proofs.rules.date.Goals as goal

pub returns : goal.returns
returns c = rw c.at.ensures (date_settled _ c.told-rec _ c.requires _ (c.read_date.ensures ∙ ap date_field c.field.ensures.bytes))
