-- `list::judge_items` meets its contract. Assumes nothing.
use Prim.Native.Nat.{ℕ, ◌+◌}
use mathlib.Core.List.{List, []}
use mathlib.Core.Path.{sym, ◌∙◌, ap}
use Rattle.records.specs.Context.{header_of}
use Rattle.records.specs.Kinds.{opened}
use Rattle.flow.specs.Judge.{walk_from}
use Rattle.flow.specs.Walking.{start}
use Rattle.list.specs.Encode.{records_for}
use Rattle.list.specs.Items.{items_in}
use Rattle.list.specs.Table.{record_of}
use Rattle.list.specs.Write.{closed, judge_items}
use Rattle.list.proofs.Loops.{none_judged, built_so, first_record}
use Rattle.list.proofs.writer.judge_items.Goals as goal

pub returns-in_default : goal.returns-in_default
returns-in_default c = c.close.ensures ∙ rw c.start.ensures (sym (none_judged _ c.requires c.in_default.ensures))

pub returns : goal.returns
unfolding judge_items
returns c =
    let first = c.in-Some.first in
    let meant = c.counting-meant.ensures in
    let number = meant.dispositions ∙ ap (λ (n : ℕ). n + opened (record_of first.kind)) c.start-2.ensures.dispositions in
    let built = built_so _ _ c.encode_item-header.ensures number (meant.flow ∙ c.start-2.ensures.flow) in
    c.judge_records.ensures
    ∙ ap (λ (im : List ℕ). walk_from closed (header_of im) start [] 0 (records_for (items_in c.args.list.now))) (built ∙ sym (first_record c.in-Some.ensures first.sized c.requires))
