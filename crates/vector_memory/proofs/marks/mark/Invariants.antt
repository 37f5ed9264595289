-- `vector_memory::mark`: what is left to mark from i on makes the same of the memory. Assumes nothing.
use Rattle.std.proofs.Common.{◌≡◌}
use Rattle.vector_memory.specs.Marks.{marked}
use Rattle.vector_memory.proofs.marks.mark.Given as goal

abbrev pub invariant-loop-i : goal.invariant-loop-i
invariant-loop-i g l = marked g.T.Markable.marker l.i l.out ≡ marked g.T.Markable.marker l.at l.initial.out
