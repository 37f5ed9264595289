-- `list::judge_records` meets its contract: after each right record, what is left decides as the whole does. Assumes nothing.
use lib.ListN.{length}
use Rattle.records.specs.Context.{header_of}
use Rattle.list.specs.Encode.{header_meant}
use Rattle.list.proofs.Loops.{JudgingAt}
use Rattle.list.proofs.writer.judge_records.Given as goal

abbrev pub invariant-loop-it : goal.invariant-loop-it
invariant-loop-it l = JudgingAt (header_of l.im) l.list l.rest l.n l.meant.dispositions (header_meant l.meant.flow l.header) l.walk l.company

abbrev pub decreases-loop-it : goal.decreases-loop-it
decreases-loop-it l = length l.rest
