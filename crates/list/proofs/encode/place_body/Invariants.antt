-- `list::place_body` meets its contract: the spans that are left, with the rest of the body, make the same of the record as all of them did
-- at first. Assumes nothing.
use lib.ListN.{drop}
use Rattle.list.specs.Encode.{fill, body_placed}
use Rattle.list.specs.Table.{carried}
use Rattle.list.proofs.Filling.{BodyLeft}
use Rattle.list.proofs.encode.place_body.Given as goal

abbrev pub invariant-loop-first : goal.invariant-loop-first
invariant-loop-first l = BodyLeft (drop l.first-index (carried l.it.kind)) l.rest l.rec (fill (body_placed (carried l.it.kind) l.it.body.now) l.initial.rec)
