-- `records::judge_numbered` meets its contract: each step ends it by its own rows of the table, or has passed them. Assumes nothing.
use Rattle.std.proofs.Common.{rules}
use Rattle.records.specs.RecordVerdict.{right}
use Rattle.records.specs.Checks.{number_checks}
use Rattle.records.proofs.FirstFault.{ends, passes}
use Rattle.records.proofs.detail.judge_numbered.Goals as goal

pub returns-in_err-check_number : goal.returns-in_err-check_number
returns-in_err-check_number c = ends 0 2 (number_checks c.args.n c.args.rec.now) (right c.args.kind 0) _ c.from_residual.result (search rules) tt c.in_err-check_number.ensures

pub returns : goal.returns
returns c = passes (number_checks c.args.n c.args.rec.now) (right c.args.kind 0) (search rules)
