-- `list::list_length` meets its contract: after each record, the length so far and that of the others' items are the whole. Assumes nothing.
use Prim.Native.Nat.{◌+◌, ◌*◌, ◌≤◌}
use mathlib.Core.Path.{◌≡◌}
use lib.ListN.{length}
use Rattle.list.specs.ReadBack.{list_of}
use Rattle.list.proofs.OwnList.{list_from}
use Rattle.list.proofs.own_list.list_length.Given as goal

abbrev pub invariant-loop-i : goal.invariant-loop-i
invariant-loop-i l = (l.length ≤ 111 * l.i) × (l.length + length (list_from l.kind l.flow l.i) ≡ length (list_of l.flow))
