-- `list::store_list` meets its contract: after each record, the items of the others still find room, and then all are there. Assumes nothing.
use Prim.Native.Nat.{ℕ, ◌+◌, ◌≤◌}
use mathlib.Core.List.{List}
use mathlib.Core.Path.{◌≡◌, sym, ◌∙◌, ap, subst}
use native.Mathlib.Numerals.{add-one}
use lib.ListN.{length}
use Rattle.sequences.specs.Part.{put}
use Rattle.flow.specs.Records.{record_at}
use Rattle.flow.proofs.Cut.{record_part, record_whole}
use Rattle.list.specs.Items.{list_bytes}
use Rattle.list.specs.ReadBack.{item_of, item_length}
use Rattle.list.specs.Table.{row_in}
use Rattle.list.proofs.OwnList.{listing, item-fits, listed_next, listed_all}
use Rattle.list.proofs.own_list.store_list.Goals as goal

pub loop-i-init : goal.loop-i-init
loop-i-init c = listing _ _ _ c.requires.kind_value c.requires.flow_in_bounds

pub store_item-at-requires : goal.store_item-at-requires
store_item-at-requires c =
    let loop = c.loop-i in
    let more = c.loop-i-test.true in
    let handed = record_part loop.i c.args.flow.now in
    record { rec_len = ap length handed ∙ record_whole _ _ more; rec_in_bounds = subst (λ (rec : List ℕ). loop.at + item_length (row_in c.args.kind rec) ≤ length loop.out) (sym handed) (item-fits loop.invariant more) }

pub loop-i-preserved : goal.loop-i-preserved
loop-i-preserved c =
    let loop = c.loop-i in
    let flow = c.args.flow.now in
    let kind = c.args.kind in
    let call = c.store_item-at in
    let handed = record_part loop.i flow in
    let end : call.result ≡ loop.at + item_length (row_in kind (record_at loop.i flow)) = call.ensures.value ∙ ap (λ (rec : List ℕ). loop.at + item_length (row_in kind rec)) handed in
    let out : call.new.out ≡ put loop.at (list_bytes (item_of kind (record_at loop.i flow))) loop.out = call.ensures.out_after ∙ ap (λ (rec : List ℕ). put loop.at (list_bytes (item_of kind rec)) loop.out) handed in
    rw (end, out, add-one loop.i) (listed_next loop.invariant c.loop-i-test.true)

pub returns : goal.returns
returns c = listed_all c.loop-i.invariant c.loop-i-test.false
