-- `amend::write_totals` meets its contract. Assumes nothing.
use Prim.Native.Nat.{ℕ, ◌-◌}
use mathlib.Core.Path.{◌≡◌, ◌∙◌, ap}
use native.Mathlib.Omega.{arith}
use Rattle.sequences.specs.Part.{put}
use Rattle.fields.specs.Digits.{digits}
use Rattle.records.specs.Field.{◌to◌, first_of, last_of, number_written}
use Rattle.records.specs.FlowKinds.{total_span}
use Rattle.records.proofs.NumberWritten.{written-within}
use Rattle.amend.proofs.RulesKept.{total-place, total_from, with_count, with_total, count-length, total-length}
use Rattle.amend.proofs.withdrawal.write_totals.Goals as goal

pub returns : goal.returns
returns c =
    let third = c.write_number-3 in
    let second = c.write_number-2 in
    let ends = c.total_last.ensures in
    let begins = c.total_first.ensures in
    let first = c.write_number in
    let rec = c.args.rec.now in
    let t = c.args.totals in
    let one = with_count t rec in
    let two = with_total t rec in
    let one-length = count-length t rec c.requires in
    let two-length = total-length t rec c.requires in
    let span = total_span t.kind in
    let place = total-place t.kind in
    let wide : last_of span - (first_of span - 1) ≡ 15 = omega arith in
    let one-so = first.ensures ∙ written-within 46 52 t.dispositions rec (omega arith) (omega (arith, c.requires)) in
    let two-so =
    second.ensures ∙ (λ i. number_written (begins i to ends i) t.cents (one-so i))
    ∙ written-within (first_of span) (last_of span) t.cents one (omega arith) (omega arith)
    ∙ ap (λ (w : ℕ). put (total_from t.kind) (digits w t.cents) one) wide in
    third.ensures ∙ ap (number_written (83 to 89) t.records) two-so ∙ written-within 83 89 t.records two (omega arith) (omega (arith, two-length))
