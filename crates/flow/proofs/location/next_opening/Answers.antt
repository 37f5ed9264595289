-- `flow::next_opening` meets its contract: after each record that opens no disposition, the first one from there on is the first of all. Assumes nothing.
use Prim.Native.Nat.{ℕ, ◌+◌, ◌-◌, ◌*◌, ◌<◌, ◌/◌}
use mathlib.Core.Bool.{Bool, cond}
use mathlib.Core.List.{List}
use mathlib.Core.Path.{◌≡◌, refl, sym, ◌∙◌, ap}
use native.Mathlib.Numerals.{add-one}
use native.Mathlib.Omega.{arith}
use lib.ListN.{length}
use Rattle.sequences.specs.Part.{part}
use Rattle.records.specs.Kinds.{is_opening}
use Rattle.flow.specs.Find.{opening_from}
use Rattle.flow.proofs.Dispositions.{opening_next, opening_end}
use Rattle.flow.proofs.Cut.{record_part}
use Rattle.flow.proofs.location.next_opening.Goals as goal

-- the record's type decides whether it is the one
decides :
    (flow : List ℕ) (from i : ℕ) (opens : Bool) → i < length flow / 120 - 1 → opening_from flow i ≡ opening_from flow from → opens ≡ is_opening (part (120 * i) (120 * i + 120 - 120 * i) flow)
    → opening_from flow from ≡ cond opens i (opening_from flow (i + 1))
decides flow from i opens within so told = sym so ∙ rw (told ∙ ap is_opening (record_part i flow), add-one) (opening_next flow i (omega arith))

pub loop-i-init : goal.loop-i-init
loop-i-init c = (omega arith, refl)

pub returns-then-is_opening : goal.returns-then-is_opening
returns-then-is_opening c = rw c.if-is_opening.true at (sym (decides c.args.flow.now _ c.loop-i.i _ (omega (arith, c.saturating_sub-trailer.ensures)) c.loop-i.invariant.1 c.is_opening.ensures))

pub loop-i-preserved : goal.loop-i-preserved
loop-i-preserved c = (
  omega arith,
  rw c.if-is_opening.false at (sym (decides c.args.flow.now _ c.loop-i.i _ (omega (arith, c.saturating_sub-trailer.ensures)) c.loop-i.invariant.1 c.is_opening.ensures)),
)

pub returns : goal.returns
returns c =
    let last : c.max.result ≡ c.loop-i.i = omega (arith, c.max.ensures) in
    last ∙ sym (opening_end c.args.flow.now c.loop-i.i (omega (arith, c.saturating_sub-trailer.ensures))) ∙ c.loop-i.invariant.1
