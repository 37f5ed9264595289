-- `flow::Walk::judge` meets its contract. Assumes nothing.
use mathlib.Core.Path.{◌≡◌, sym, ◌∙◌, ap}
use Rattle.std.specs.Prelude.{Some, None}
use Rattle.records.specs.Bytes.{bad_byte}
use Rattle.records.specs.RecordVerdict.{refused}
use Rattle.flow.specs.Order.{permitted, among}
use Rattle.flow.proofs.Places.{other_length, bad_byte_lem, no_type, of_type}
use Rattle.flow.proofs.walk.Walk.judge.Goals as goal

pub returns-then-rec-ne120 : goal.returns-then-rec-ne120
returns-then-rec-ne120 c = sym (other_length _ _ _ _ _ c.if-rec-ne120.true)

pub returns-then-bad-ne0 : goal.returns-then-bad-ne0
returns-then-bad-ne0 c = ap (refused 2) c.bad_byte-bad.ensures ∙ sym (bad_byte_lem _ _ _ _ _ c.if-rec-ne120.false (λ e. c.if-bad-ne0.true (c.bad_byte-bad.ensures ∙ e)))

pub returns-in_default : goal.returns-in_default
returns-in_default c =
    let w = c.args.self in
    let rec = c.args.rec.now in
    let printable : bad_byte rec ≡ 0 = sym c.bad_byte-bad.ensures ∙ c.if-bad-ne0.false in
    let found : among (permitted w.place.due) rec ≡ None = sym c.kind_due.ensures ∙ c.in_default.is in
    sym (no_type _ w _ _ rec c.if-rec-ne120.false printable found)

pub returns : goal.returns
returns c =
    let w = c.args.self in
    let rec = c.args.rec.now in
    let kind = c.in-Some.kind in
    let printable : bad_byte rec ≡ 0 = sym c.bad_byte-bad.ensures ∙ c.if-bad-ne0.false in
    let found : among (permitted w.place.due) rec ≡ Some kind = sym c.kind_due.ensures ∙ c.in-Some.is in
    c.judge.ensures ∙ rw c.dispositions_with.ensures (sym (of_type _ w _ _ rec c.if-rec-ne120.false kind printable found))
