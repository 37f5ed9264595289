-- `list::store_body` meets its contract: after each span, the bytes at the others still find room, and then all are there. Assumes nothing.
use mathlib.Core.Path.{◌≡◌}
use lib.ListN.{length, drop}
use Rattle.list.specs.ReadBack.{gather}
use Rattle.list.specs.Table.{carried}
use Rattle.list.proofs.Gathering.{Storing}
use Rattle.list.proofs.own_list.store_body.Given as goal

abbrev pub invariant-loop-first : goal.invariant-loop-first
invariant-loop-first l = (length l.out ≡ length l.initial.out) × Storing (drop l.first-index (carried l.fn.kind)) l.from l.rec l.out (gather (carried l.fn.kind) l.rec)
