-- `flow::pass_over` meets its contract: after each record that was passed over, what is left decides as it did. Assumes nothing.
use Prim.Native.Nat.{ℕ, ◌-◌}
use mathlib.Core.Bool.{true}
use mathlib.Core.List.{List}
use mathlib.Core.Path.{◌≡◌, sym, ◌∙◌, ap, subst}
use native.Mathlib.Numerals.{add-one}
use Rattle.records.specs.Field.{field}
use Rattle.records.specs.QuickTest.{passes_quick_test}
use Rattle.flow.specs.FastPath.{Inside}
use Rattle.flow.specs.Records.{record_at}
use Rattle.flow.proofs.Cut.{record_part}
use Rattle.flow.proofs.FastPath.{pass_begin, pass_next}
use Rattle.flow.proofs.fast_path.pass_over.Goals as goal
use Rattle.std.specs.Prelude.{Some}

pub loop-i-init : goal.loop-i-init
loop-i-init c = pass_begin _ _ _ c.requires.le_from c.requires.from_in_bounds

abbrev flow-of : goal.After-pass-here → List ℕ
flow-of c = c.args.flow.now

-- what is known of a record that was passed over
passed-test : (c : goal.After-pass-here) → let i = c.loop-i.i in
    let kind = c.in-Some.kind in
    Inside c.loop-i.here.place.due (record_at i (flow-of c)) (Some kind) × (passes_quick_test kind (field 4 10 (record_at (i - 1) (flow-of c))) (record_at i (flow-of c)) ≡ true)
passed-test c =
    let i = c.loop-i.i in
    let kind = c.in-Some.kind in
    let rec = record_part i (flow-of c) in
    let number = c.field.ensures.bytes ∙ ap (field 4 10) (record_part (i - 1) (flow-of c)) in (
      rw rec at (subst (Inside _ _) c.in-Some.is c.kind_inside.ensures),
      sym (λ j. passes_quick_test kind (number j) (rec j)) ∙ sym c.passes_quick_test.ensures ∙ c.if-not-passes_quick_test.false,
    )

pub loop-i-preserved : goal.loop-i-preserved
loop-i-preserved c =
    let passes = passed-test c in
    rw (c.pass-here.ensures, add-one) (pass_next (flow-of c) c.loop-i.i c.loop-i.here _ c.loop-i.invariant c.loop-i-test.true passes.0 passes.1)

pub returns-after-loop-i : goal.returns-after-loop-i
returns-after-loop-i c = c.loop-i.invariant.passed

pub returns-in_default : goal.returns-in_default
returns-in_default c = c.loop-i.invariant.passed

pub returns-then-not-passes_quick_test : goal.returns-then-not-passes_quick_test
returns-then-not-passes_quick_test c = c.loop-i.invariant.passed
