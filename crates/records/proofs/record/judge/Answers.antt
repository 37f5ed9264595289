-- `records::judge` meets its contract. Assumes nothing.
use mathlib.Core.Path.{◌∙◌}
use borrow.Author.Tests.{ne_eqb}
use Rattle.records.specs.Checks.{checks}
use Rattle.records.specs.Judge.{judge_as}
use Rattle.records.proofs.ByKind.{of_kind}
use Rattle.records.proofs.record.judge.Goals as goal

pub returns-in_default : goal.returns-in_default
unfolding judge_as
returns-in_default c = rw (ne_eqb _ 120 c.in_default.ensures.cases)

pub returns-in-Im : goal.returns-in-Im
unfolding checks
returns-in-Im c = rw c.in-Some.ensures.cases.same at c.judge_header.ensures ∙ of_kind _ _ c.in-Im.is c.in-Some.ensures.cases.long

pub returns-in-R14 : goal.returns-in-R14
unfolding checks
returns-in-R14 c = rw c.in-Some.ensures.cases.same at c.judge_disposition.ensures ∙ of_kind _ _ c.in-R14.is c.in-Some.ensures.cases.long

pub returns-in-R16 : goal.returns-in-R16
unfolding checks
returns-in-R16 c = rw c.in-Some.ensures.cases.same at c.judge_coordinates.ensures ∙ of_kind _ _ c.in-R16.is c.in-Some.ensures.cases.long

pub returns-in-R20 : goal.returns-in-R20
unfolding checks
returns-in-R20 c = rw (c.in-Some.ensures.cases.same, c.in-R20.is) at c.judge_with_text.ensures ∙ of_kind _ _ c.in-R20.is c.in-Some.ensures.cases.long

pub returns-in-R30 : goal.returns-in-R30
unfolding checks
returns-in-R30 c = rw (c.in-Some.ensures.cases.same, c.in-R30.is) at c.judge_with_text-in-R30.ensures ∙ of_kind _ _ c.in-R30.is c.in-Some.ensures.cases.long

pub returns-in-R40 : goal.returns-in-R40
unfolding checks
returns-in-R40 c = rw (c.in-Some.ensures.cases.same, c.in-R40.is) at c.judge_numbered.ensures ∙ of_kind _ _ c.in-R40.is c.in-Some.ensures.cases.long

pub returns-in-R50 : goal.returns-in-R50
unfolding checks
returns-in-R50 c = rw (c.in-Some.ensures.cases.same, c.in-R50.is) at c.judge_numbered-in-R50.ensures ∙ of_kind _ _ c.in-R50.is c.in-Some.ensures.cases.long

pub returns-in-R59 : goal.returns-in-R59
unfolding checks
returns-in-R59 c = rw (c.in-Some.ensures.cases.same, c.in-R59.is) at c.judge_with_text-in-R59.ensures ∙ of_kind _ _ c.in-R59.is c.in-Some.ensures.cases.long

pub returns-in-R51 : goal.returns-in-R51
unfolding checks
returns-in-R51 c = rw (c.in-Some.ensures.cases.same, c.in-R51.is) at c.judge_numbered-in-R51.ensures ∙ of_kind _ _ c.in-R51.is c.in-Some.ensures.cases.long

pub returns-in-R70 : goal.returns-in-R70
unfolding checks
returns-in-R70 c = rw c.in-Some.ensures.cases.same at c.judge_control.ensures ∙ of_kind _ _ c.in-R70.is c.in-Some.ensures.cases.long

pub returns-in-Ef : goal.returns-in-Ef
unfolding checks
returns-in-Ef c = rw (c.in-Some.ensures.cases.same, c.or_requests.ensures) at c.judge_trailer.ensures ∙ of_kind _ _ c.in-Ef.is c.in-Some.ensures.cases.long
