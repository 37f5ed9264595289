-- `amend::renumber` meets its contract. Assumes nothing.
use Prim.Native.Nat.{◌+◌}
use mathlib.Core.Bool.{Bool, true, false, cond}
use mathlib.Core.Path.{◌≡◌, sym, ◌∙◌, ap}
use native.Mathlib.Nat.{add-zero}
use Rattle.fields.specs.Digits.{digits}
use Rattle.records.specs.Kinds.{is_opening}
use Rattle.flow.specs.Records.{record_at}
use Rattle.flow.proofs.Cut.{record_part}
use Rattle.amend.proofs.Renumbering.{number_at, renumbered_next, renumbered-all}
use Rattle.amend.proofs.withdrawal.renumber.Goals as goal
use Rattle.amend.proofs.withdrawal.renumber.Goals.{then-is_opening, else-is_opening}

pub loop-i-preserved : goal.loop-i-preserved
loop-i-preserved c =
    let at = c.loop-i in
    let typed : c.is_opening.result ≡ is_opening (record_at at.i at.flow) = c.is_opening.ensures ∙ ap is_opening (record_part at.i at.flow) in
    let counted : (b : Bool) → c.is_opening.result ≡ b → at.number + cond b 1 0 ≡ number_at at.flow at.i at.number = λ b e. ap (λ (t : Bool). at.number + cond t 1 0) (sym e ∙ typed) in
    -- the number is that of its record, and the digits are its
    let so : (c.if-is_opening.number ≡ number_at at.flow at.i at.number) × (c.if-is_opening.shown ≡ digits 7 c.if-is_opening.number) =
    elim c.if-is_opening.branch [
      | then-is_opening w ↦ (w.number-is ∙ counted true w.if-is_opening.true, w.shown-is ∙ w.seven_digits-shown-then-is_opening.ensures ∙ ap (digits 7) (sym w.number-is))
      | else-is_opening w ↦ (w.number-is ∙ sym (add-zero at.number) ∙ counted false w.if-is_opening.false, w.shown-is ∙ at.invariant.says ∙ ap (digits 7) (sym w.number-is))
    ] in
    renumbered_next at.invariant at.auto.i c.loop-i-test.true c.requires.to_in_bounds _ _ _ so.0 so.1 c.copy_from_slice.ensures.after

pub returns : goal.returns
returns c = renumbered-all c.loop-i.invariant c.loop-i-test.false
