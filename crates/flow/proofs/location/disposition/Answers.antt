-- `flow::disposition` meets its contract. Assumes nothing.
use Prim.Native.Nat.{ℕ, ◌+◌, ◌-◌, ◌*◌, ◌≤◌}
use mathlib.Core.List.{List}
use mathlib.Core.Path.{◌≡◌, refl, sym, ◌∙◌, ap, ap₂}
use native.Mathlib.Omega.{arith}
use lib.ListN.{length}
use Rattle.std.specs.Prelude.{Result, Ok}
use Rattle.flow.specs.declared.answer.Refusal.{Refusal}
use Rattle.sequences.specs.Part.{part}
use Rattle.flow.specs.Find.{bytes_at, offset_at, find}
use Rattle.flow.specs.Verdict.{verdict}
use Rattle.flow.specs.Verdict.{Verdict, refused}
use Rattle.flow.specs.declared.location.Location.{Location}
use Rattle.flow.proofs.Dispositions.{found_within}
use Rattle.flow.proofs.location.disposition.Goals as goal

-- the location lies within the flow
within :
    (flow : List ℕ) (k : ℕ) (v : Result Location Refusal) (l : Location) → verdict v ≡ find flow k → v ≡ Ok l →
    (1 ≤ l.first) × (120 * (l.first - 1 + l.records) + 120 ≤ length flow)
within flow k v l so at = found_within flow _ (sym so ∙ ap verdict at)

pub overflow_sub-location : goal.overflow_sub-location
overflow_sub-location c = omega (arith, within _ _ _ _ c.find.ensures c.in-Ok.is)

pub overflow_mul-result : goal.overflow_mul-result
overflow_mul-result c = omega (arith, within _ _ _ _ c.find.ensures c.in-Ok.is, c.as_index-from.ensures)

pub overflow_add-result : goal.overflow_add-result
overflow_add-result c = omega (arith, within _ _ _ _ c.find.ensures c.in-Ok.is)

pub overflow_mul-result-in-Ok : goal.overflow_mul-result-in-Ok
overflow_mul-result-in-Ok c = omega (arith, within _ _ _ _ c.find.ensures c.in-Ok.is)

pub slice_bounds-result-end : goal.slice_bounds-result-end
slice_bounds-result-end c = omega (arith, within _ _ _ _ c.find.ensures c.in-Ok.is)

pub returns-in-Ok : goal.returns-in-Ok
returns-in-Ok c =
    let from = c.as_index-from.result in
    let to = from + c.as_index.result in
    let start : 120 * from ≡ 120 * (c.in-Ok.location.first - 1) = ap (λ (n : ℕ). 120 * n) c.as_index-from.ensures in
    let size : 120 * to - 120 * from ≡ 120 * c.in-Ok.location.records = omega (arith, c.as_index.ensures) in
    let bytes = ap₂ (λ (a n : ℕ). part a n c.args.flow.now) start size ∙ sym (ap (λ (l : Verdict Location). bytes_at l c.args.flow.now) (sym c.find.ensures ∙ ap verdict c.in-Ok.is)) in
    let lent = c.args.flow in
    record { bytes = bytes; place = (refl, ap (λ (n : ℕ). n + lent.ref_ptr.1) (start ∙ sym (ap offset_at (sym c.find.ensures ∙ ap verdict c.in-Ok.is)))) }

pub returns-in-Err : goal.returns-in-Err
returns-in-Err c =
    let none : verdict c.find.result ≡ refused _ = ap verdict c.in-Err.is in
    let wrong = sym c.find.ensures ∙ none in
    let lent = c.args.flow in
    record { bytes = sym (ap (λ (l : Verdict Location). bytes_at l lent.now) wrong); place = (refl, ap (λ (n : ℕ). n + lent.ref_ptr.1) (sym (ap offset_at wrong))) }
