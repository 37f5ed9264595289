-- `records::judge_with_text` meets its contract: each step ends it by its own rows of the table, or has passed them. Assumes nothing.
use Rattle.std.proofs.Common.{rules}
use Rattle.records.specs.RecordVerdict.{right, check}
use mathlib.Core.List.{[], ◌∷◌, ◌++◌}
use Rattle.records.specs.Checks.{number_checks, is_present}
use Rattle.records.specs.Field.{field}
use Rattle.records.proofs.FirstFault.{ends, passes}
use Rattle.records.proofs.detail.judge_with_text.Goals as goal

pub returns-in_err-check_number : goal.returns-in_err-check_number
returns-in_err-check_number c = ends 0 2 (number_checks c.args.n c.args.rec.now ++ (check (is_present (field 11 c.args.last c.args.rec.now)) 7 11 ∷ [])) (right c.args.kind 0) _ c.from_residual.result (search rules) tt c.in_err-check_number.ensures

pub returns-in_err-present : goal.returns-in_err-present
returns-in_err-present c = ends 2 1 (number_checks c.args.n c.args.rec.now ++ (check (is_present (field 11 c.args.last c.args.rec.now)) 7 11 ∷ [])) (right c.args.kind 0) _ c.from_residual-in_err-present.result (search rules) (search rules) c.in_err-present.ensures

pub returns : goal.returns
returns c = passes (number_checks c.args.n c.args.rec.now ++ (check (is_present (field 11 c.args.last c.args.rec.now)) 7 11 ∷ [])) (right c.args.kind 0) (search rules)
