-- `list::store_item` meets its contract. Assumes nothing.
use Prim.Native.Nat.{◌+◌, ◌-◌}
use mathlib.Core.Path.{◌≡◌, sym, ◌∙◌, ap}
use native.Mathlib.Omega.{arith}
use lib.ListN.{length, set}
use borrow.Rule.Slice.PartMut.{put_mid}
use Rattle.sequences.proofs.Part.{put-nothing, lent_is_put}
use Rattle.list.specs.ReadBack.{gather}
use Rattle.list.specs.Table.{carried}
use Rattle.list.proofs.Gathering.{body_gathered}
use Rattle.list.proofs.OwnList.{no_item, item_stored}
use Rattle.list.proofs.own_list.store_item.Goals as goal

pub returns-in_default-clause-out_after : goal.returns-in_default-clause-out_after
returns-in_default-clause-out_after c = rw (no_item _ _ (sym c.in_default.ensures)) (sym (put-nothing c.args.at c.args.out.now))

pub returns-clause-out_after : goal.returns-clause-out_after
returns-clause-out_after c =
    let rec = c.args.rec.now in
    let at = c.args.at in
    let out = c.args.out.now in
    let row = sym c.in-Some.ensures in
    let body = gather (carried c.in-Some.kind) rec in
    let end = at + 1 + c.body_length.result in
    let over = set out at c.letter.result in
    let size : length body ≡ end - (at + 1) = omega (arith, body_gathered rec c.requires.rec_len c.in-Some.kind, c.body_length.ensures) in
    let fits = rw row at c.requires.rec_in_bounds in
    ap (put_mid (at + 1) (end - (at + 1)) over) c.store_body.ensures
    ∙ lent_is_put (at + 1) end over body size
    ∙ rw c.letter.ensures (item_stored _ rec c.requires.rec_len c.in-Some.kind row at out (omega (arith, fits)))
