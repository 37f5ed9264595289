-- `records::has_type` meets its contract. Assumes nothing.
use mathlib.Core.Path.{◌∙◌}
use Rattle.records.proofs.kind.has_type.Goals as goal

pub returns : goal.returns
returns c = c.equal.ensures ∙ cc (c.field.ensures.bytes, c.type_of-code.ensures)
