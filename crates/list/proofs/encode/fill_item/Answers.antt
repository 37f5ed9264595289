-- `list::fill_item` meets its contract. Assumes nothing.
use mathlib.Core.List.{◌∷◌, ◌++◌}
use Rattle.records.specs.Kinds.{type_of, role}
use Rattle.list.specs.Encode.{place, supplied, body_placed}
use Rattle.list.specs.Table.{carried}
use Rattle.list.proofs.Filling.{Fills, fills_place, fills_both}
use Rattle.list.proofs.encode.fill_item.Goals as goal

pub returns : goal.returns
returns c =
    let own = c.record-own in
    let it = c.args.it in
    let all : Fills (place 2 (type_of own.result) ∷ (supplied (role own.result) c.args.meant.flow c.args.meant.number c.args.abi.now ++ body_placed (carried it.kind) it.body.now)) c.args.rec.now c.place_body.new.rec =
    fills_place c.place.ensures c.type_of-code.ensures (fills_both (record { done = c.supply.ensures }) (record { done = c.place_body.ensures })) in
    rw own.ensures at all.done
