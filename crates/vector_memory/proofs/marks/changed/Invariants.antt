-- `vector_memory::changed`: what is left from i on decides as the whole does. Assumes nothing.
use Rattle.std.proofs.Common.{◌≡◌, drop}
use Rattle.vector_memory.specs.Marks.{changed_from}
use Rattle.vector_memory.proofs.marks.changed.Given as goal

abbrev pub invariant-loop-i : goal.invariant-loop-i
invariant-loop-i g l = changed_from g.T.PartialEq.eq g.T.Markable.marker l.at (drop l.at l.out) ≡ changed_from g.T.PartialEq.eq g.T.Markable.marker l.i (drop l.i l.out)
