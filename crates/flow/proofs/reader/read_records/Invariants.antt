-- `flow::read_records` meets its contract. After each right record, what is left decides as the whole does. Assumes nothing.
use Prim.Native.Nat.{◌-◌, ◌/◌, ◌≤◌}
use lib.ListN.{length}
use Rattle.records.specs.Context.{header_of}
use Rattle.flow.specs.Judge.{ended}
use Rattle.flow.specs.Records.{records_of, records_from, most_bytes}
use Rattle.flow.proofs.Reading.{Reading}
use Rattle.flow.proofs.reader.read_records.Given as goal

abbrev pub invariant-loop-i : goal.invariant-loop-i
invariant-loop-i l = (l.i ≤ length l.flow / 120) × (length l.flow ≤ most_bytes) × Reading ended (header_of l.header) (records_of l.flow) l.walk l.company l.i (records_from l.i l.flow)

abbrev pub decreases-loop-i : goal.decreases-loop-i
decreases-loop-i l = length l.flow / 120 - l.i
