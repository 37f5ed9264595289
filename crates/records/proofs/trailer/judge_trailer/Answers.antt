-- `records::judge_trailer` meets its contract: each step ends it by its own rows of the table, or has passed them. Assumes nothing.
use Rattle.std.proofs.Common.{rules}
use Rattle.records.specs.RecordVerdict.{right}
use Rattle.records.specs.declared.kind.RecordKind.TheVariants.{Ef}
use Rattle.records.specs.Checks.{trailer_checks}
use Rattle.records.specs.Context.{header_of}
use Rattle.records.proofs.FirstFault.{ends, passes}
use Rattle.records.proofs.trailer.judge_trailer.Goals as goal

pub returns-in_err-as_in_header : goal.returns-in_err-as_in_header
returns-in_err-as_in_header c = ends 0 1 (trailer_checks (header_of c.args.header.now) c.args.flow c.args.counts c.args.rec.now) (right Ef 0) _ c.from_residual.result (search rules) tt c.in_err-as_in_header.ensures

pub returns-in_err-as_in_header-2 : goal.returns-in_err-as_in_header-2
returns-in_err-as_in_header-2 c = ends 1 1 (trailer_checks (header_of c.args.header.now) c.args.flow c.args.counts c.args.rec.now) (right Ef 0) _ c.from_residual-in_err-as_in_header-2.result (search rules) (search rules) c.in_err-as_in_header-2.ensures

pub returns-in_err-as_in_header-3 : goal.returns-in_err-as_in_header-3
returns-in_err-as_in_header-3 c = ends 2 1 (trailer_checks (header_of c.args.header.now) c.args.flow c.args.counts c.args.rec.now) (right Ef 0) _ c.from_residual-in_err-as_in_header-3.result (search rules) (search rules) c.in_err-as_in_header-3.ensures

pub returns-in_err-as_in_header-4 : goal.returns-in_err-as_in_header-4
returns-in_err-as_in_header-4 c = ends 3 1 (trailer_checks (header_of c.args.header.now) c.args.flow c.args.counts c.args.rec.now) (right Ef 0) _ c.from_residual-in_err-as_in_header-4.result (search rules) (search rules) c.in_err-as_in_header-4.ensures

pub returns-in_err-digits_equal_to : goal.returns-in_err-digits_equal_to
returns-in_err-digits_equal_to c = ends 4 2 (trailer_checks (header_of c.args.header.now) c.args.flow c.args.counts c.args.rec.now) (right Ef 0) _ c.from_residual-in_err-digits_equal_to.result (search rules) (search rules) c.in_err-digits_equal_to.ensures

pub returns-in_err-digits_equal_to-2 : goal.returns-in_err-digits_equal_to-2
returns-in_err-digits_equal_to-2 c = ends 6 2 (trailer_checks (header_of c.args.header.now) c.args.flow c.args.counts c.args.rec.now) (right Ef 0) _ c.from_residual-in_err-digits_equal_to-2.result (search rules) (search rules) (rw c.total_at-asked.ensures at c.in_err-digits_equal_to-2.ensures)

pub returns-in_err-digits_equal_to-3 : goal.returns-in_err-digits_equal_to-3
returns-in_err-digits_equal_to-3 c = ends 8 2 (trailer_checks (header_of c.args.header.now) c.args.flow c.args.counts c.args.rec.now) (right Ef 0) _ c.from_residual-in_err-digits_equal_to-3.result (search rules) (search rules) (rw c.total_at-recalled.ensures at c.in_err-digits_equal_to-3.ensures)

pub returns-in_err-digits_equal_to-4 : goal.returns-in_err-digits_equal_to-4
returns-in_err-digits_equal_to-4 c = ends 10 2 (trailer_checks (header_of c.args.header.now) c.args.flow c.args.counts c.args.rec.now) (right Ef 0) _ c.from_residual-in_err-digits_equal_to-4.result (search rules) (search rules) c.in_err-digits_equal_to-4.ensures

pub returns-in_err-as_in_header-5 : goal.returns-in_err-as_in_header-5
returns-in_err-as_in_header-5 c = ends 12 1 (trailer_checks (header_of c.args.header.now) c.args.flow c.args.counts c.args.rec.now) (right Ef 0) _ c.from_residual-in_err-as_in_header-5.result (search rules) (search rules) c.in_err-as_in_header-5.ensures

pub returns : goal.returns
returns c = passes (trailer_checks (header_of c.args.header.now) c.args.flow c.args.counts c.args.rec.now) (right Ef 0) (search rules)
