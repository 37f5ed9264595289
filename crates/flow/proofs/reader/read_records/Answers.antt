-- `flow::read_records` meets its contract. After each right record, what is left decides as the whole does. Assumes nothing.
use Prim.Native.Nat.{ℕ, suc, ◌+◌, ◌-◌, ◌*◌, ◌/◌}
use mathlib.Core.List.{List}
use mathlib.Core.Path.{◌≡◌, sym, ◌∙◌, ap, ap₂}
use native.Mathlib.Numerals.{add-one}
use native.Mathlib.Omega.{arith}
use lib.ListN.{length}
use Rattle.sequences.specs.Part.{part}
use Rattle.records.specs.Context.{Header}
use Rattle.records.specs.RecordVerdict.{RecordVerdict}
use Rattle.flow.specs.FastPath.{NumberBefore}
use Rattle.flow.specs.Records.{record_at}
use Rattle.flow.specs.Walking.{step, judge_record, saturated}
use Rattle.flow.specs.declared.walk.Walk.{Walk}
use Rattle.flow.proofs.Lengths.{length-said}
use Rattle.flow.proofs.Cut.{cut_next, cut_end, record_part, record_whole}
use Rattle.flow.proofs.FastPath.{numbered_saturated, pass_on}
use Rattle.flow.proofs.Reading.{begin, go_on, refuse, finish, ended_alike}
use Rattle.flow.proofs.reader.read_records.Goals as goal

pub loop-i-init : goal.loop-i-init
loop-i-init c =
    let flow : List ℕ = c.args.flow.now in
    let all : length flow / 120 - 0 ≡ length flow / 120 = omega arith in
    (omega arith, (length-said _ c.requires).2, rw (c.start-walk.ensures, all) (begin _ _ _))

-- the part handed on is the record, and its number is its index + 1
found :
    (header : Header) (walk : Walk) (company : List ℕ) (i n : ℕ) (flow : List ℕ) {v : RecordVerdict} → v ≡ judge_record header walk company n (part (120 * i) (120 * i + 120 - 120 * i) flow) → n ≡ i + 1
    → judge_record header walk company (suc i) (record_at i flow) ≡ v
found header walk company i n flow judged number = sym (judged ∙ ap₂ (judge_record header walk company) (number ∙ add-one i) (record_part i flow))

pub returns-in-Err : goal.returns-in-Err
returns-in-Err c =
    let told = found _ _ _ _ _ c.args.flow.now c.in-Err.ensures c.as_count-n.ensures in
    rw (c.as_count-n.ensures, add-one) (refuse c.loop-i.invariant.2 _ _ (cut_next _ _ _ c.loop-i-test.true) _ _ told)

pub loop-i-preserved : goal.loop-i-preserved
loop-i-preserved c =
    let flow = c.args.flow.now in
    let i = c.loop-i.i in
    let right = c.in-Ok.right in
    let handed = record_part i flow in
    let told = found _ _ _ _ _ flow c.in-Ok.ensures c.as_count-n.ensures in
    let walk-so : c.next-walk.result ≡ saturated (step c.loop-i.walk right.kind right.cents (record_at i flow)) = c.next-walk.ensures ∙ ap (λ (rec : List ℕ). saturated (step c.loop-i.walk right.kind right.cents rec)) handed in
    let back : suc i - 1 ≡ i = omega arith in
    let numbered : NumberBefore c.next-walk.result (record_at (suc i - 1) flow) = rw (walk-so, back) (numbered_saturated _ _ _ _ _ _ _ (record_whole flow i c.loop-i-test.true) told) in (
      c.pass_over-passed.ensures.within,
      c.loop-i.invariant.1,
      rw (c.first_company-company.ensures.bytes, c.field-code.ensures.bytes, handed)
          (pass_on flow c.next-walk.result (rw walk-so (go_on c.loop-i.invariant.2 _ _ (cut_next _ _ _ c.loop-i-test.true) _ _ told)) numbered (rw add-one at c.pass_over-passed.ensures)),
    )

pub loop-i-smaller : goal.loop-i-smaller
loop-i-smaller c = omega (arith, c.pass_over-passed.ensures.on)

pub returns : goal.returns
returns c = c.end.ensures ∙ rw c.as_count.ensures (finish c.loop-i.invariant.2 (cut_end _ _ _ c.loop-i-test.false) (ended_alike c.loop-i.invariant.2))
