-- `amend::withdraw` meets its contract. Assumes nothing.
use Prim.Native.Nat.{◌-◌, ◌*◌}
use mathlib.Core.Path.{◌≡◌, sym}
use native.Mathlib.Omega.{arith}
use lib.ListN.{length, replicate}
use Rattle.std.proofs.Common.{rules}
use Rattle.std.specs.Prelude.{Err}
use Rattle.amend.proofs.FoundFacts.{found_facts}
use Rattle.amend.proofs.Unchanged.{withdraw-found, the-only, withdrawal-made}
use Rattle.amend.proofs.WithdrawnLemmas.{withdrawn_so}
use Rattle.amend.proofs.withdrawal.withdraw.Goals as goal

pub returns-in_err-found : goal.returns-in_err-found
returns-in_err-found c =
    let passed_on : c.from_residual.result ≡ Err c.in_err-found.field-0.0 = search rules in
    rw passed_on (sym (withdraw-found _ _ (sym c.in_err-found.ensures)))

pub returns-then-before-le1 : goal.returns-then-before-le1
returns-then-before-le1 c = rw c.refused_call.ensures (sym (the-only _ _ (sym c.in_ok-found.ensures) c.if-before-le1.true))

pub slice_bounds-fill-count : goal.slice_bounds-fill-count
slice_bounds-fill-count c = omega (arith, found_facts _ _ (sym c.in_ok-found.ensures))

pub slice_bounds-fill-start : goal.slice_bounds-fill-start
slice_bounds-fill-start c = omega (arith, found_facts _ _ (sym c.in_ok-found.ensures))

pub returns : goal.returns
returns c =
    let blanks : c.fill.new.self ≡ replicate (length c.recount.new.flow - 120 * c.as_index-left.result) 32 = search rules in
    let bytes =
    withdrawn_so (found_facts _ _ (sym c.in_ok-found.ensures)) c.as_index-at.ensures c.as_index.ensures c.as_index-left.ensures _ _ _ _
    c.copy_within.ensures.after c.renumber.ensures c.recount.ensures blanks in
    withdrawal-made _ _ (sym c.in_ok-found.ensures) c.if-before-le1.false _ bytes
