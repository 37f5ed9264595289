-- `list::encode_item` meets its contract. Assumes nothing.
use mathlib.Core.Path.{◌≡◌}
use native.Mathlib.Omega.{arith}
use lib.ListN.{length-take}
use Rattle.list.specs.Encode.{abi_in, encode_item}
use Rattle.list.proofs.encode.encode_item.Goals as goal

pub fill_item-requires : goal.fill_item-requires
fill_item-requires c = rw (c.field.ensures.bytes, length-take) (omega arith)

pub returns : goal.returns
unfolding encode_item
returns c =
    let abi : c.field.result.now ≡ abi_in c.args.header.now = c.field.ensures.bytes in
    rw (abi, c.args.meant.numbered) at c.fill_item.ensures
