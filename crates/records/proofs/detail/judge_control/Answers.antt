-- `records::judge_control` meets its contract: each step ends it by its own rows of the table, or has passed them. Assumes nothing.
use Rattle.std.proofs.Common.{rules}
use Rattle.records.specs.RecordVerdict.{right, check}
use Rattle.records.specs.declared.kind.RecordKind.TheVariants.{R70}
use Rattle.sequences.specs.Text.{text}
use mathlib.Core.List.{[], ◌∷◌, ◌++◌}
use Rattle.records.specs.Checks.{number_checks, is_listed}
use Rattle.records.specs.Field.{byte_at}
use Rattle.records.proofs.FirstFault.{ends, passes}
use Rattle.records.proofs.detail.judge_control.Goals as goal

pub returns-in_err-check_number : goal.returns-in_err-check_number
returns-in_err-check_number c = ends 0 2 (number_checks c.args.n c.args.rec.now ++ (check (is_listed (byte_at 94 c.args.rec.now) (text " PB")) 6 94 ∷ [])) (right R70 0) _ c.from_residual.result (search rules) tt c.in_err-check_number.ensures

pub returns-in_err-check : goal.returns-in_err-check
returns-in_err-check c = ends 2 1 (number_checks c.args.n c.args.rec.now ++ (check (is_listed (byte_at 94 c.args.rec.now) (text " PB")) 6 94 ∷ [])) (right R70 0) _ c.from_residual-in_err-check.result (search rules) (search rules) (rw c.listed.ensures at c.in_err-check.ensures)

pub returns : goal.returns
returns c = passes (number_checks c.args.n c.args.rec.now ++ (check (is_listed (byte_at 94 c.args.rec.now) (text " PB")) 6 94 ∷ [])) (right R70 0) (search rules)
