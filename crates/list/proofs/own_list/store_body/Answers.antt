-- `list::store_body` meets its contract. Assumes nothing.
use Prim.Native.Nat.{ℕ, ◌+◌, ◌-◌, ◌≤◌}
use mathlib.Core.List.{List, ◌∷◌}
use mathlib.Core.Path.{◌≡◌, refl, ◌∙◌, ap}
use native.Mathlib.Omega.{arith}
use lib.ListN.{length}
use Rattle.sequences.proofs.Part.{put-length}
use Rattle.records.specs.Field.{Span, ◌to◌, field}
use Rattle.list.proofs.Gathering.{Storing, body_at_most, storing, stored_turn, stored_next, stored_all}
use Rattle.list.proofs.TableSpans.{span_next, span_end}
use Rattle.list.proofs.own_list.store_body.Goals as goal

pub loop-first-init : goal.loop-first-init
loop-first-init c = (refl, storing c.args.kind _ _ c.requires.rec_len c.requires.out_len)

-- there is room for the bytes of the span
fits : (rec : List ℕ) {a e : ℕ} {ss : List Span} {from : ℕ} {bytes out all : List ℕ} → length rec ≡ 120 → bytes ≡ field a e rec → Storing ((a to e) ∷ ss) from rec out all → from + length bytes ≤ length out
fits rec whole same s = rw same (stored_turn whole s)

pub overflow_add-from : goal.overflow_add-from
overflow_add-from c =
    let left = rw (span_next _ _ c.carried-first-items.ensures c.loop-first-test.true) at c.loop-first.invariant.1 in
    omega (arith, fits _ c.requires.rec_len c.field-bytes.ensures.bytes left, body_at_most c.args.kind, c.requires.out_len, c.loop-first.invariant.0)

pub place-requires-clause-content_in_bounds : goal.place-requires-clause-content_in_bounds
place-requires-clause-content_in_bounds c =
    let left = rw (span_next _ _ c.carried-first-items.ensures c.loop-first-test.true) at c.loop-first.invariant.1 in
    omega (arith, fits _ c.requires.rec_len c.field-bytes.ensures.bytes left)

pub loop-first-preserved : goal.loop-first-preserved
loop-first-preserved c =
    let bytes = c.field-bytes.ensures.bytes in
    let at : c.loop-first.from + 1 - 1 ≡ c.loop-first.from = omega arith in
    let stored = rw (at, bytes) at c.place.ensures in
    let left = rw (span_next _ _ c.carried-first-items.ensures c.loop-first-test.true) at c.loop-first.invariant.1 in
    (ap length stored ∙ put-length _ _ _ (stored_turn c.requires.rec_len left) ∙ c.loop-first.invariant.0, rw bytes (stored_next c.requires.rec_len stored left))

pub returns : goal.returns
returns c = stored_all (rw (span_end _ _ c.carried-first-items.ensures c.loop-first-test.false) at c.loop-first.invariant.1)
