-- `vector_memory::changed` meets its contract. Assumes nothing.
use Rattle.std.proofs.Common.{sym, ◌∙◌}
use Rattle.vector_memory.proofs.Marking.{changed_here}
use Rattle.vector_memory.proofs.marks.changed.Goals as goal

pub returns-then-ne-clause-value : goal.returns-then-ne-clause-value
returns-then-ne-clause-value g c =
    let here = changed_here _ _ _ _ _ _ _ c.loop-i-test.true c.index-out-i.is c.marker.ensures c.ne.ensures in
    sym (c.loop-i.invariant ∙ here ∙ rw c.if-ne.true)

pub loop-i-preserved : goal.loop-i-preserved
loop-i-preserved g c =
    let here = changed_here _ _ _ _ _ _ _ c.loop-i-test.true c.index-out-i.is c.marker.ensures c.ne.ensures in
    c.loop-i.invariant ∙ here ∙ rw c.if-ne.false
