-- `records::judge_coordinates` meets its contract: each step ends it by its own rows of the table, or has passed them. Assumes nothing.
use Rattle.std.proofs.Common.{rules}
use Rattle.records.specs.RecordVerdict.{right}
use Rattle.records.specs.declared.kind.RecordKind.TheVariants.{R16}
use mathlib.Core.List.{◌++◌}
use Rattle.records.specs.Checks.{number_checks, coordinates_checks}
use Rattle.records.specs.Context.{header_of}
use Rattle.records.proofs.FirstFault.{ends, passes}
use Rattle.records.proofs.coordinates.judge_coordinates.Goals as goal

pub returns-in_err-check_number : goal.returns-in_err-check_number
returns-in_err-check_number c = ends 0 2 (number_checks c.args.n c.args.rec.now ++ coordinates_checks (header_of c.args.header.now).abi c.args.rec.now) (right R16 0) _ c.from_residual.result (search rules) tt c.in_err-check_number.ensures

pub returns-in_err-check : goal.returns-in_err-check
returns-in_err-check c = ends 2 1 (number_checks c.args.n c.args.rec.now ++ coordinates_checks (header_of c.args.header.now).abi c.args.rec.now) (right R16 0) _ c.from_residual-in_err-check.result (search rules) (search rules) (rw (c.same-italian.ensures, c.same.ensures) at c.in_err-check.ensures)

pub returns-in_err-digits : goal.returns-in_err-digits
returns-in_err-digits c = ends 3 1 (number_checks c.args.n c.args.rec.now ++ coordinates_checks (header_of c.args.header.now).abi c.args.rec.now) (right R16 0) _ c.from_residual-in_err-digits.result (search rules) (search rules) c.in_err-digits.ensures.checked

pub returns-in_err-present : goal.returns-in_err-present
returns-in_err-present c = ends 4 1 (number_checks c.args.n c.args.rec.now ++ coordinates_checks (header_of c.args.header.now).abi c.args.rec.now) (right R16 0) _ c.from_residual-in_err-present.result (search rules) (search rules) c.in_err-present.ensures

pub returns-in_err-equal_to_abi : goal.returns-in_err-equal_to_abi
returns-in_err-equal_to_abi c = ends 5 2 (number_checks c.args.n c.args.rec.now ++ coordinates_checks (header_of c.args.header.now).abi c.args.rec.now) (right R16 0) _ c.from_residual-in_err-equal_to_abi.result (search rules) (search rules) c.in_err-equal_to_abi.ensures

pub returns-in_err-above_zero : goal.returns-in_err-above_zero
returns-in_err-above_zero c = ends 7 2 (number_checks c.args.n c.args.rec.now ++ coordinates_checks (header_of c.args.header.now).abi c.args.rec.now) (right R16 0) _ c.from_residual-in_err-above_zero.result (search rules) (search rules) c.in_err-above_zero.ensures

pub returns-in_err-present-2 : goal.returns-in_err-present-2
returns-in_err-present-2 c = ends 9 1 (number_checks c.args.n c.args.rec.now ++ coordinates_checks (header_of c.args.header.now).abi c.args.rec.now) (right R16 0) _ c.from_residual-in_err-present-2.result (search rules) (search rules) c.in_err-present-2.ensures

pub returns : goal.returns
returns c = passes (number_checks c.args.n c.args.rec.now ++ coordinates_checks (header_of c.args.header.now).abi c.args.rec.now) (right R16 0) (search rules)
