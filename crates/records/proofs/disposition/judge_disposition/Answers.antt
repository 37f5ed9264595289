-- `records::judge_disposition` meets its contract: each step ends it by its own rows of the table, or has passed them. Assumes nothing.
use Rattle.std.proofs.Common.{rules}
use Rattle.records.specs.RecordVerdict.{right}
use Rattle.records.specs.declared.kind.RecordKind.TheVariants.{R14}
use mathlib.Core.List.{◌++◌}
use Rattle.fields.specs.Digits.{number}
use Rattle.records.specs.Amount.{amount_in}
use Rattle.records.specs.Checks.{number_checks, disposition_checks}
use Rattle.records.specs.Context.{header_of}
use Rattle.records.proofs.FirstFault.{ends, passes}
use Rattle.records.proofs.disposition.judge_disposition.Goals as goal

pub returns-in_err-cents : goal.returns-in_err-cents
returns-in_err-cents c = ends 0 9 (number_checks c.args.n c.args.rec.now ++ disposition_checks (header_of c.args.header.now).abi c.args.company.now c.args.found c.args.rec.now) (right R14 (number (amount_in c.args.rec.now))) _ c.from_residual.result (search rules) tt c.in_err-cents.ensures.checked

pub returns-in_err-equal_to_abi : goal.returns-in_err-equal_to_abi
returns-in_err-equal_to_abi c = ends 9 2 (number_checks c.args.n c.args.rec.now ++ disposition_checks (header_of c.args.header.now).abi c.args.company.now c.args.found c.args.rec.now) (right R14 (number (amount_in c.args.rec.now))) _ c.from_residual-in_err-equal_to_abi.result (search rules) (search rules) c.in_err-equal_to_abi.ensures

pub returns-in_err-blank_or_digits : goal.returns-in_err-blank_or_digits
returns-in_err-blank_or_digits c = ends 11 1 (number_checks c.args.n c.args.rec.now ++ disposition_checks (header_of c.args.header.now).abi c.args.company.now c.args.found c.args.rec.now) (right R14 (number (amount_in c.args.rec.now))) _ c.from_residual-in_err-blank_or_digits.result (search rules) (search rules) c.in_err-blank_or_digits.ensures

pub returns-in_err-check : goal.returns-in_err-check
returns-in_err-check c = ends 12 1 (number_checks c.args.n c.args.rec.now ++ disposition_checks (header_of c.args.header.now).abi c.args.company.now c.args.found c.args.rec.now) (right R14 (number (amount_in c.args.rec.now))) _ c.from_residual-in_err-check.result (search rules) (search rules) (rw (c.agreeing.ensures, c.field-code.ensures.bytes) at c.in_err-check.ensures)

pub returns-in_err-check-2 : goal.returns-in_err-check-2
returns-in_err-check-2 c = ends 13 1 (number_checks c.args.n c.args.rec.now ++ disposition_checks (header_of c.args.header.now).abi c.args.company.now c.args.found c.args.rec.now) (right R14 (number (amount_in c.args.rec.now))) _ c.from_residual-in_err-check-2.result (search rules) (search rules) (rw c.listed.ensures at c.in_err-check-2.ensures)

pub returns-in_err-check-3 : goal.returns-in_err-check-3
returns-in_err-check-3 c = ends 14 1 (number_checks c.args.n c.args.rec.now ++ disposition_checks (header_of c.args.header.now).abi c.args.company.now c.args.found c.args.rec.now) (right R14 (number (amount_in c.args.rec.now))) _ c.from_residual-in_err-check-3.result (search rules) (search rules) (rw c.same.ensures at c.in_err-check-3.ensures)

pub returns : goal.returns
returns c = rw c.in_ok-cents.ensures.value (passes (number_checks c.args.n c.args.rec.now ++ disposition_checks (header_of c.args.header.now).abi c.args.company.now c.args.found c.args.rec.now) (right R14 (number (amount_in c.args.rec.now))) (search rules))
