-- `records::first_bad` meets its contract. Assumes nothing.
use mathlib.Core.Path.{sym, ◌∙◌}
use Rattle.records.proofs.Printable.{bad_at, bad_nowhere}
use Rattle.records.proofs.bytes.first_bad.Goals as goal

pub returns-in-Some : goal.returns-in-Some
returns-in-Some c = bad_at _ _ (sym c.bad_index.ensures ∙ c.in-Some.is)

pub returns-in-None : goal.returns-in-None
returns-in-None c = bad_nowhere _ (sym c.bad_index.ensures ∙ c.in-None.is)
