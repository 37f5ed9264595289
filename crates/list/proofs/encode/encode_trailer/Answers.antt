-- `list::encode_trailer` meets its contract. Assumes nothing.
use Rattle.sequences.proofs.Part.{part_at_most}
use Rattle.list.specs.Encode.{encode_trailer}
use Rattle.list.proofs.encode.encode_trailer.Goals as goal

pub fill_trailer-requires : goal.fill_trailer-requires
fill_trailer-requires c = rw c.field.ensures.bytes (part_at_most 0 42 c.args.header.now)

pub returns : goal.returns
unfolding encode_trailer
returns c = rw c.field.ensures.bytes at c.fill_trailer.ensures
