-- `list::fill_trailer` meets its contract. Assumes nothing.
use mathlib.Core.Path.{refl}
use Rattle.list.specs.Encode.{trailer_placed}
use Rattle.list.proofs.Filling.{Fills, fills_none, fills_place, fills_both}
use Rattle.list.proofs.encode.fill_trailer.Goals as goal

pub returns : goal.returns
returns c =
    let args = c.args in
    let all : Fills (trailer_placed args.copied.now args.totals) args.rec.now c.place-3.new.out =
    fills_place c.place.ensures c.type_of-code.ensures
    (fills_place c.place-2.ensures refl (fills_both (record { done = c.write_totals.ensures }) (fills_place c.place-3.ensures refl fills_none))) in
    all.done
