-- `list::store_items` meets its contract: after each record stored, what is left to store makes the whole of the output. Assumes nothing.
use mathlib.Core.Path.{◌≡◌}
use lib.ListN.{length}
use Rattle.sequences.specs.Part.{put}
use Rattle.list.specs.Encode.{header_meant, encode}
use Rattle.list.specs.Items.{items_in}
use Rattle.list.proofs.Loops.{StoringAt}
use Rattle.list.proofs.writer.store_items.Given as goal

abbrev pub invariant-loop-it : goal.invariant-loop-it
invariant-loop-it l = (length l.out ≡ length l.initial.out) × StoringAt l.list (put 0 (encode (items_in l.list)) l.initial.out) l.rest l.n l.meant.dispositions (header_meant l.meant.flow l.header) l.out

abbrev pub decreases-loop-it : goal.decreases-loop-it
decreases-loop-it l = length l.rest
