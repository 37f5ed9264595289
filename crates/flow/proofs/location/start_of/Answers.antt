-- `flow::start_of` meets its contract: each turn goes from one disposition of the flow to the next. Assumes nothing.
use Prim.Native.Nat.{ℕ, ◌≤◌, ◌<◌}
use mathlib.Core.List.{List, flatten}
use mathlib.Core.Path.{◌≡◌, refl, sym, ◌∙◌, ap}
use native.Mathlib.Omega.{arith}
use Rattle.flow.specs.Find.{start_of, HasDisposition}
use Rattle.flow.proofs.Dispositions.{disposition_at, starts_next}
use Rattle.flow.proofs.location.start_of.Goals as goal

pub loop-init : goal.loop-init
unfolding flatten
loop-init c = refl

-- disposition j, before the k-th, stands in the flow too
earlier : (flow : List ℕ) (k j : ℕ) → HasDisposition flow k → 1 ≤ j → j < k → HasDisposition flow j
earlier flow k j s some below =
    let within = s.within in
    record { totals = s.totals; read = s.read; some = some; within = omega arith }

pub overflow_add-at : goal.overflow_add-at
overflow_add-at c =
    let d = disposition_at _ _ (earlier c.args.flow.now c.args.k c.loop.counter c.requires c.loop.auto.counter c.loop-test.true) in
    let within = d.within in
    omega (arith, c.loop.invariant)

pub loop-preserved : goal.loop-preserved
loop-preserved c =
    let f = c.args.flow.now in
    let s = earlier f c.args.k c.loop.counter c.requires c.loop.auto.counter c.loop-test.true in
    c.next_opening-at.ensures ∙ rw c.loop.invariant (disposition_at f c.loop.counter s).next ∙ sym (starts_next f c.loop.counter s)

pub returns : goal.returns
returns c =
    let last : c.loop.counter ≡ c.args.k = omega (arith, c.requires.some) in
    c.loop.invariant ∙ ap (start_of _) last
