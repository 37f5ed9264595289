-- `flow::pass_over` meets its contract: after each record that was passed over, what is left decides as it did. Assumes nothing.
use Prim.Native.Nat.{◌-◌, ◌/◌}
use lib.ListN.{length}
use Rattle.flow.proofs.FastPath.{Passing}
use Rattle.flow.proofs.fast_path.pass_over.Given as goal

abbrev pub invariant-loop-i : goal.invariant-loop-i
invariant-loop-i l = Passing l.flow l.from l.initial.here l.i l.here

abbrev pub decreases-loop-i : goal.decreases-loop-i
decreases-loop-i l = length l.flow / 120 - l.i
