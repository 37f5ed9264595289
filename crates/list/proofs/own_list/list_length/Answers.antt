-- `list::list_length` meets its contract: after each record, the length so far and that of the others' items are the whole. Assumes nothing.
use Prim.Native.Nat.{ℕ, suc, ◌+◌}
use mathlib.Core.Path.{◌≡◌, ◌∙◌, ap}
use native.Mathlib.Numerals.{add-one}
use native.Mathlib.Omega.{arith}
use lib.ListN.{length}
use Rattle.flow.specs.Records.{record_at}
use Rattle.flow.proofs.Cut.{record_part}
use Rattle.list.specs.ReadBack.{item_length}
use Rattle.list.specs.Table.{row_in}
use Rattle.list.proofs.OwnList.{item_at_most, list_from, list_all, length_next, list_end}
use Rattle.list.proofs.own_list.list_length.Goals as goal

pub loop-i-init : goal.loop-i-init
loop-i-init c = (omega arith, omega (arith, ap length (list_all c.args.kind c.args.flow.now c.requires.kind_value)))

pub overflow_add-length : goal.overflow_add-length
overflow_add-length c = omega (arith, c.item_length-length.ensures, item_at_most c.row_in.result)

pub loop-i-preserved : goal.loop-i-preserved
loop-i-preserved c =
    let flow = c.args.flow.now in
    let kind = c.args.kind in
    let i = c.loop-i.i in
    let size : c.item_length-length.result ≡ item_length (row_in kind (record_at i flow)) = c.item_length-length.ensures ∙ ap item_length (c.row_in.ensures ∙ ap (row_in kind) (record_part i flow)) in
    let on : length (list_from kind flow (i + 1)) ≡ length (list_from kind flow (suc i)) = ap (λ (j : ℕ). length (list_from kind flow j)) (add-one i) in
    (omega (arith, item_at_most (row_in kind (record_at i flow))), omega (arith, length_next kind flow i c.loop-i-test.true))

pub returns : goal.returns
returns c =
    let none = ap length (list_end c.args.kind c.args.flow.now c.loop-i.i c.loop-i-test.false) in
    omega arith
