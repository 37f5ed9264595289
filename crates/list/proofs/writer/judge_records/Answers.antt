-- `list::judge_records` meets its contract. Assumes nothing.
use mathlib.Core.Path.{sym, ◌∙◌, ap₂}
use native.Mathlib.Numerals.{add-one}
use Rattle.flow.specs.Walking.{judge_record}
use Rattle.list.proofs.Loops.{built_so, judging_on, judging_refused, judging_ends}
use Rattle.list.proofs.writer.judge_records.Goals as goal

pub returns-in-Err : goal.returns-in-Err
returns-in-Err c =
    let built = built_so _ _ c.encode_item-rec.ensures c.counting-own.ensures.dispositions c.counting-own.ensures.flow in
    let told = sym (c.in-Err.ensures ∙ ap₂ (judge_record _ _ _) (add-one c.loop-it.n) built) in
    rw add-one (judging_refused c.in-Some.ensures c.in-Some.it.sized c.loop-it.invariant _ _ told)

pub loop-it-preserved : goal.loop-it-preserved
loop-it-preserved c =
    let own = c.counting-own.ensures in
    let built = built_so _ _ c.encode_item-rec.ensures own.dispositions own.flow in
    let told = sym (c.in-Ok.ensures ∙ ap₂ (judge_record _ _ _) (add-one c.loop-it.n) built) in
    let on = judging_on c.in-Some.ensures c.in-Some.it.sized c.loop-it.invariant _ _ told in
    rw (add-one, c.after-meant.ensures.dispositions, c.after-meant.ensures.flow, own.dispositions, own.flow, c.header_after-header.ensures, c.next-walk.ensures, built, c.company_after-company.ensures) on

pub returns : goal.returns
returns c = c.close.ensures ∙ judging_ends c.loop-it.invariant c.requires.few c.in_default.ensures
