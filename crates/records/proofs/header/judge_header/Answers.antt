-- `records::judge_header` meets its contract: each step ends it by its own rows of the table, or has passed them. Assumes nothing.
use Rattle.std.proofs.Common.{rules}
use Rattle.records.specs.RecordVerdict.{right}
use Rattle.records.specs.declared.kind.RecordKind.TheVariants.{Im}
use Rattle.records.specs.Checks.{header_checks}
use Rattle.records.proofs.FirstFault.{ends, passes}
use Rattle.records.proofs.header.judge_header.Goals as goal

pub returns-in_err-present : goal.returns-in_err-present
returns-in_err-present c = ends 0 1 (header_checks c.args.rec.now) (right Im 0) _ c.from_residual.result (search rules) tt c.in_err-present.ensures

pub returns-in_err-digits : goal.returns-in_err-digits
returns-in_err-digits c = ends 1 1 (header_checks c.args.rec.now) (right Im 0) _ c.from_residual-in_err-digits.result (search rules) (search rules) c.in_err-digits.ensures.checked

pub returns-in_err-date : goal.returns-in_err-date
returns-in_err-date c = ends 2 2 (header_checks c.args.rec.now) (right Im 0) _ c.from_residual-in_err-date.result (search rules) (search rules) c.in_err-date.ensures

pub returns-in_err-present-2 : goal.returns-in_err-present-2
returns-in_err-present-2 c = ends 4 1 (header_checks c.args.rec.now) (right Im 0) _ c.from_residual-in_err-present-2.result (search rules) (search rules) c.in_err-present-2.ensures

pub returns-in_err-check : goal.returns-in_err-check
returns-in_err-check c = ends 5 1 (header_checks c.args.rec.now) (right Im 0) _ c.from_residual-in_err-check.result (search rules) (search rules) (rw (c.blank-unused.ensures, c.same.ensures) at c.in_err-check.ensures)

pub returns-in_err-check-2 : goal.returns-in_err-check-2
returns-in_err-check-2 c = ends 6 1 (header_checks c.args.rec.now) (right Im 0) _ c.from_residual-in_err-check-2.result (search rules) (search rules) (rw (c.blank-unused.ensures, c.same-2.ensures) at c.in_err-check-2.ensures)

pub returns-in_err-check-3 : goal.returns-in_err-check-3
returns-in_err-check-3 c = ends 7 1 (header_checks c.args.rec.now) (right Im 0) _ c.from_residual-in_err-check-3.result (search rules) (search rules) (rw (c.blank-unused.ensures, c.all_digits.ensures) at c.in_err-check-3.ensures)

pub returns-in_err-check-4 : goal.returns-in_err-check-4
returns-in_err-check-4 c = ends 8 1 (header_checks c.args.rec.now) (right Im 0) _ c.from_residual-in_err-check-4.result (search rules) (search rules) (rw c.same-3.ensures at c.in_err-check-4.ensures)

pub returns : goal.returns
returns c = passes (header_checks c.args.rec.now) (right Im 0) (search rules)
