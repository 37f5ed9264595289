-- `list::count_items` meets its contract: after each item, what is left decides as the whole does. Assumes nothing.
use Prim.Native.Nat.{◌+◌, ◌≤◌}
use mathlib.Core.Path.{◌≡◌}
use lib.ListN.{length}
use Rattle.list.specs.Items.{items_from, parse, item_count}
use Rattle.list.proofs.Parsing.{counted_from}
use Rattle.list.proofs.item.count_items.Given as goal

abbrev pub invariant-loop-item : goal.invariant-loop-item
invariant-loop-item l = (l.n + length l.rest ≤ length l.list) × (item_count (parse l.list) ≡ counted_from l.n (items_from l.n 0 l.rest))

abbrev pub decreases-loop-item : goal.decreases-loop-item
decreases-loop-item l = length l.rest
