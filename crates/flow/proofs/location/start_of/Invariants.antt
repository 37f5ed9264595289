-- `flow::start_of` meets its contract: each turn goes from one disposition of the flow to the next. Assumes nothing.
use mathlib.Core.Path.{◌≡◌}
use Rattle.flow.specs.Find.{dispositions_in, start_of}
use Rattle.flow.proofs.location.start_of.Given as goal

abbrev pub invariant-loop : goal.invariant-loop
invariant-loop l = l.at ≡ start_of (dispositions_in l.flow) l.counter
