-- `records::judge_payment` meets its contract: each step ends it by its own rows of the table, or has passed them. Assumes nothing.
use mathlib.Core.Bool.{true}
use mathlib.Core.List.{◌++◌}
use mathlib.Core.Path.{◌≡◌, refl, sym, ◌∙◌, ap}
use Rattle.std.proofs.Common.{rules}
use Rattle.std.specs.Prelude.{None, Err}
use Rattle.refusals.specs.declared.Reason.TheVariants.{NotPermitted}
use Rattle.fields.specs.Bytes.{is_equal}
use Rattle.records.specs.Checks.{number_checks, payment_checks}
use Rattle.records.specs.Field.{field}
use Rattle.records.specs.FlowKinds.{sign, is_known, or_requests, kind_in}
use Rattle.records.specs.RecordVerdict.{fault, first_fault}
use Rattle.records.proofs.FirstFault.{ends_so}
use Rattle.records.proofs.disposition.judge_payment.Goals as goal

pub returns-in_err-check_number-clause-checked : goal.returns-in_err-check_number-clause-checked
returns-in_err-check_number-clause-checked c = ends_so 0 2 (number_checks c.args.n c.args.rec.now ++ payment_checks c.args.found c.args.rec.now) _ c.from_residual.result (search rules) tt c.in_err-check_number.ensures

pub returns-in_err-date-clause-checked : goal.returns-in_err-date-clause-checked
returns-in_err-date-clause-checked c = ends_so 2 2 (number_checks c.args.n c.args.rec.now ++ payment_checks c.args.found c.args.rec.now) _ c.from_residual-in_err-date.result (search rules) (search rules) c.in_err-date.ensures

pub returns-in_default-clause-checked : goal.returns-in_default-clause-checked
unfolding first_fault
returns-in_default-clause-checked c =
    let none : kind_in c.args.rec.now ≡ None = sym c.kind_in-told.ensures ∙ c.in_default.is in
    ends_so 4 1 (number_checks c.args.n c.args.rec.now ++ payment_checks c.args.found c.args.rec.now) (fault NotPermitted 29) (Err (fault NotPermitted 29)) refl (search rules) (λ after. rw none)

pub returns-in_err-check-clause-checked : goal.returns-in_err-check-clause-checked
returns-in_err-check-clause-checked c =
    let known : is_known (kind_in c.args.rec.now) ≡ true = ap is_known (sym c.kind_in-told.ensures ∙ c.in-Some.is) in
    ends_so 5 1 (number_checks c.args.n c.args.rec.now ++ payment_checks c.args.found c.args.rec.now) _ c.from_residual-in_err-check.result (search rules) (search rules) (rw c.is_of.ensures at c.in_err-check.ensures)

pub returns-in_err-cents-clause-checked : goal.returns-in_err-cents-clause-checked
returns-in_err-cents-clause-checked c =
    let known : is_known (kind_in c.args.rec.now) ≡ true = ap is_known (sym c.kind_in-told.ensures ∙ c.in-Some.is) in
    ends_so 6 2 (number_checks c.args.n c.args.rec.now ++ payment_checks c.args.found c.args.rec.now) _ c.from_residual-in_err-cents.result (search rules) (search rules) c.in_err-cents.ensures.checked

pub returns-in_err-check-2-clause-checked : goal.returns-in_err-check-2-clause-checked
returns-in_err-check-2-clause-checked c =
    let found = sym c.kind_in-told.ensures ∙ c.in-Some.is in
    let known : is_known (kind_in c.args.rec.now) ≡ true = ap is_known found in
    let signed : c.same.result ≡ is_equal (field 47 47 c.args.rec.now) (sign (or_requests (kind_in c.args.rec.now))) =
    c.same.ensures ∙ rw (c.sign_of-sign.ensures, found) in
    ends_so 8 1 (number_checks c.args.n c.args.rec.now ++ payment_checks c.args.found c.args.rec.now) _ c.from_residual-in_err-check-2.result (search rules) (search rules) (rw signed at c.in_err-check-2.ensures)
