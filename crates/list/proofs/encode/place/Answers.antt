-- `list::place` meets its contract. Assumes nothing.
use Prim.Native.Nat.{◌+◌, ◌-◌}
use native.Mathlib.Omega.{arith}
use lib.ListN.{length}
use mathlib.Core.Path.{◌∙◌, ap}
use borrow.Rule.Slice.PartMut.{put_mid}
use Rattle.sequences.proofs.Part.{lent_is_put}
use Rattle.list.proofs.encode.place.Goals as goal

pub returns : goal.returns
returns c =
    let out = c.args.out.now in
    let content = c.args.content.now in
    let from = c.args.first - 1 in
    ap (put_mid from (from + length content - from) out) c.copy_from_slice.ensures.after ∙ lent_is_put from (from + length content) out content (omega arith)
