-- `amend::change` meets its contract. Assumes nothing.
use Prim.Native.Nat.{◌-◌}
use mathlib.Core.Path.{◌≡◌, sym, ◌∙◌}
use native.Mathlib.Omega.{arith}
use Rattle.std.proofs.Common.{rules}
use Rattle.std.specs.Prelude.{Err}
use Rattle.fields.specs.Digits.{digits}
use Rattle.fields.proofs.Amounts.{amount_test}
use Rattle.amend.specs.Amended.{written_in_record}
use Rattle.amend.specs.Change.{totals_changed, changed}
use Rattle.amend.proofs.FoundFacts.{found_facts}
use Rattle.amend.proofs.RulesKept.{total-place}
use Rattle.amend.proofs.Unchanged.{change-found, no-amount, too-large, change-made}
use Rattle.amend.proofs.amount.change.Goals as goal

pub returns-in_err-found : goal.returns-in_err-found
returns-in_err-found c =
    let passed_on : c.from_residual.result ≡ Err c.in_err-found.field-0.0 = search rules in
    rw passed_on (sym (change-found _ _ (sym c.in_err-found.ensures) _))

pub returns-then-not-is_amount : goal.returns-then-not-is_amount
returns-then-not-is_amount c =
    rw c.refused_call.ensures (sym (no-amount _ _ (sym c.in_ok-found.ensures) _ (sym c.is_amount.ensures ∙ c.if-not-is_amount.true)))

pub overflow_add-totals : goal.overflow_add-totals
overflow_add-totals c =
    let s = found_facts _ _ (sym c.in_ok-found.ensures) in
    omega (arith, s.share, s.cents, ((amount_test c.args.cents).0 (sym c.is_amount.ensures ∙ c.if-not-is_amount.false)).1)

pub returns-then-totals-gt-MOST_CENTS : goal.returns-then-totals-gt-MOST_CENTS
returns-then-totals-gt-MOST_CENTS c =
    rw c.refused_call-then-totals-gt-MOST_CENTS.ensures (sym (too-large _ _ (sym c.in_ok-found.ensures) _ (sym c.is_amount.ensures ∙ c.if-not-is_amount.false) c.if-totals-gt-MOST_CENTS.true))

pub returns : goal.returns
returns c =
    let v = c.in_ok-found.found in
    let t = totals_changed v c.args.cents in
    let begins = c.total_first in
    let ends = c.total_last in
    let wide : ends.result - (begins.result - 1) ≡ 15 = omega (arith, begins.ensures, ends.ensures, total-place t.kind) in
    let first = c.place_number.ensures in
    let bytes : c.place_number-2.new.flow ≡ changed v.location.first c.args.cents t c.args.flow.now =
    c.place_number-2.ensures ∙ (λ i. written_in_record t.records (begins.ensures i) (digits (wide i) t.cents) (first i)) in
    change-made _ _ (sym c.in_ok-found.ensures) _ (sym c.is_amount.ensures ∙ c.if-not-is_amount.false) c.if-totals-gt-MOST_CENTS.false _ bytes
