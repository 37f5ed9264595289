-- `list::judge_list` meets its contract. Assumes nothing.
use Prim.Native.Nat.{suc, ◌*◌}
use mathlib.Core.Bool.{true, false}
use mathlib.Core.Path.{◌≡◌, refl, sym, ◌∙◌}
use native.Mathlib.Omega.{arith}
use lib.Dec.{leb}
use lib.ListN.{length}
use borrow.Author.Tests.{le-leb, lt-leb}
use Rattle.records.specs.Limits.{most_records}
use Rattle.list.specs.Items.{items_in}
use Rattle.list.specs.Write.{judge_list}
use Rattle.list.proofs.Answered.{items-counted, faulty-counted}
use Rattle.list.proofs.writer.judge_list.Goals as goal

pub returns-in-Err : goal.returns-in-Err
unfolding judge_list
returns-in-Err c = rw (faulty-counted _ _ (sym c.in-Err.ensures)) refl

pub returns-then-items-gt-MOST_ITEMS : goal.returns-then-items-gt-MOST_ITEMS
unfolding judge_list
returns-then-items-gt-MOST_ITEMS c =
    let so = items-counted _ _ (sym c.in-Ok.ensures) in
    let over : leb (suc (length (items_in c.args.list.now))) most_records ≡ false = lt-leb _ _ (omega (arith, so.1)) in
    rw (so.0, over, c.refused_call.ensures) refl

pub returns-then-room-items : goal.returns-then-room-items
unfolding judge_list
returns-then-room-items c =
    let so = items-counted _ _ (sym c.in-Ok.ensures) in
    let few : leb (suc (length (items_in c.args.list.now))) most_records ≡ true = le-leb _ _ (omega (arith, so.1)) in
    let short : leb (120 * suc (length (items_in c.args.list.now))) c.args.room ≡ false = lt-leb _ _ (omega (arith, so.1)) in
    rw (so.0, few, short, c.refused_call-then-room-items.ensures) refl

pub judge_items-requires : goal.judge_items-requires
judge_items-requires c =
    let so = items-counted _ _ (sym c.in-Ok.ensures) in
    record { said = so.0; few = omega (arith, so.1) }

pub returns-else-room-items : goal.returns-else-room-items
unfolding judge_list
returns-else-room-items c =
    let so = items-counted _ _ (sym c.in-Ok.ensures) in
    let few : leb (suc (length (items_in c.args.list.now))) most_records ≡ true = le-leb _ _ (omega (arith, so.1)) in
    let fits : leb (120 * suc (length (items_in c.args.list.now))) c.args.room ≡ true = le-leb _ _ (omega (arith, so.1)) in
    c.judge_items.ensures ∙ rw (so.0, few, fits) refl
