-- `flow::next_opening` meets its contract: after each record that opens no disposition, the first one from there on is the first of all. Assumes nothing.
use Prim.Native.Nat.{max, ◌≤◌}
use mathlib.Core.Path.{◌≡◌}
use Rattle.flow.specs.Find.{opening_from}
use Rattle.flow.proofs.location.next_opening.Given as goal

abbrev pub invariant-loop-i : goal.invariant-loop-i
invariant-loop-i l = (l.i ≤ max l.trailer l.from) × (opening_from l.flow l.i ≡ opening_from l.flow l.from)
