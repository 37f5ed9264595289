-- `list::store_items` meets its contract. Assumes nothing.
use Prim.Native.Nat.{◌+◌, ◌-◌, ◌*◌}
use mathlib.Core.Path.{◌≡◌, refl, ◌∙◌, ap}
use native.Mathlib.Numerals.{add-one}
use native.Mathlib.Omega.{arith}
use lib.ListN.{length}
use Rattle.sequences.proofs.Part.{put-length}
use Rattle.list.specs.Encode.{encode_trailer, trailer_for}
use Rattle.list.specs.Items.{items_in}
use Rattle.list.proofs.Loops.{built_so, storing_begins, storing_fits, storing_on, storing_ends}
use Rattle.list.proofs.writer.store_items.Goals as goal

pub loop-it-init : goal.loop-it-init
loop-it-init c = (refl, rw (c.start-meant.ensures.dispositions, c.start-meant.ensures.flow) (storing_begins _ _ c.requires.listed c.requires.list_in_bounds))

pub loop-it-preserved : goal.loop-it-preserved
loop-it-preserved c =
    let own = c.counting-own.ensures in
    let s = c.loop-it.invariant.1 in
    let built = built_so _ _ c.encode_item-rec.ensures own.dispositions own.flow in
    let index : 120 * c.loop-it.n + 1 - 1 ≡ 120 * c.loop-it.n = omega arith in
    let stored = rw (index, built) at c.place.ensures in (
      ap length stored ∙ put-length _ _ _ (storing_fits s c.in-Some.ensures c.in-Some.it.sized) ∙ c.loop-it.invariant.0,
      rw (add-one, c.after-meant.ensures.dispositions, c.after-meant.ensures.flow, own.dispositions, own.flow, c.header_after-header.ensures, stored)
          (storing_on s c.in-Some.ensures c.in-Some.it.sized),
    )

pub returns : goal.returns
returns c =
    let ends = storing_ends c.loop-it.invariant.1 c.in_default.ensures in
    let index : 120 * c.loop-it.n + 1 - 1 ≡ 120 * c.loop-it.n = omega arith in
    let trailer : c.encode_trailer-trailer.result ≡ trailer_for (items_in c.args.list.now) = c.encode_trailer-trailer.ensures ∙ (λ i. encode_trailer (ends.1 i).body (c.requires.totals_value i)) in
    (rw (index, trailer) at c.place-2.ensures) ∙ ends.2
