-- `list::store_list` meets its contract: after each record, the items of the others still find room, and then all are there. Assumes nothing.
use Rattle.list.proofs.OwnList.{Listing}
use Rattle.list.proofs.own_list.store_list.Given as goal

abbrev pub invariant-loop-i : goal.invariant-loop-i
invariant-loop-i l = Listing l.kind l.flow l.initial.out l.out l.at l.i
