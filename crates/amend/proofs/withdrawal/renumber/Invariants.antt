-- `amend::renumber` meets its contract. Assumes nothing.
use Rattle.amend.proofs.Renumbering.{Renumbering}
use Rattle.amend.proofs.withdrawal.renumber.Given as goal

abbrev pub invariant-loop-i : goal.invariant-loop-i
invariant-loop-i l = Renumbering l.initial.flow l.from l.to l.before l.flow l.number l.shown l.i
