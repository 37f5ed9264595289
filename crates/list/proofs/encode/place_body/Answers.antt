-- `list::place_body` meets its contract. Assumes nothing.
use mathlib.Core.Path.{refl, sym}
use native.Mathlib.Omega.{arith}
use Rattle.list.proofs.Filling.{body_turn, span_placed, body_placed_lem}
use Rattle.list.proofs.TableSpans.{carried-within, span_next, span_end}
use Rattle.list.proofs.encode.place_body.Goals as goal

pub loop-first-init : goal.loop-first-init
loop-first-init c = record { left = refl; widths = sym c.args.it.sized; within = carried-within c.args.it.kind; whole = c.told-rec }

pub split_at-requires : goal.split_at-requires
split_at-requires c =
    let t = body_turn (rw (span_next _ _ c.carried-first-items.ensures c.loop-first-test.true) at c.loop-first.invariant) in
    omega (arith, t.0, t.1)

pub place-requires : goal.place-requires
place-requires c =
    let t = body_turn (rw (span_next _ _ c.carried-first-items.ensures c.loop-first-test.true) at c.loop-first.invariant) in
    record { le_first = t.2; content_in_bounds = omega (arith, t.0, t.3, c.split_at.ensures.front_len, c.loop-first.invariant.whole) }

pub loop-first-preserved : goal.loop-first-preserved
loop-first-preserved c =
    let p = rw (span_next _ _ c.carried-first-items.ensures c.loop-first-test.true) at c.loop-first.invariant in
    rw c.split_at.ensures.back (span_placed (body_turn p).0 (rw c.split_at.ensures.front at c.place.ensures) p)

pub returns : goal.returns
returns c = body_placed_lem (rw (span_end _ _ c.carried-first-items.ensures c.loop-first-test.false) at c.loop-first.invariant)
