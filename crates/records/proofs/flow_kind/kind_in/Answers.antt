-- `records::kind_in` meets its contract. Assumes nothing.
use mathlib.Core.Path.{sym, ◌∙◌}
use Rattle.records.specs.FlowKinds.{kind_among}
use Rattle.records.proofs.flow_kind.kind_in.Goals as goal

pub returns-then-has_causale : goal.returns-then-has_causale
unfolding kind_among
returns-then-has_causale c = rw (sym c.has_causale.ensures ∙ c.if-has_causale.true)

pub returns-then-has_causale-2 : goal.returns-then-has_causale-2
unfolding kind_among
returns-then-has_causale-2 c = rw (sym c.has_causale.ensures ∙ c.if-has_causale.false, sym c.has_causale-2.ensures ∙ c.if-has_causale-2.true)

pub returns : goal.returns
unfolding kind_among
returns c = rw (sym c.has_causale.ensures ∙ c.if-has_causale.false, sym c.has_causale-2.ensures ∙ c.if-has_causale-2.false)
