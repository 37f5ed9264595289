-- `amend::place_number` meets its contract. Assumes nothing.
use Prim.Native.Nat.{ℕ, ◌+◌, ◌-◌, ◌*◌, ◌≤◌}
use mathlib.Core.List.{List}
use mathlib.Core.Path.{◌≡◌, sym, ◌∙◌, ap}
use native.Mathlib.Omega.{arith}
use lib.ListN.{length}
use Rattle.sequences.specs.Part.{part, put}
use Rattle.sequences.proofs.Part.{part_length, put-length, put-within, lent_changed}
use Rattle.fields.specs.Digits.{digits}
use Rattle.fields.proofs.Decimal.{written-length}
use Rattle.records.specs.Field.{◌to◌, width}
use Rattle.records.proofs.NumberWritten.{written-within}
use Rattle.amend.proofs.amount.place_number.Goals as goal

pub returns : goal.returns
returns c =
    let r = c.as_index in
    let args = c.args in
    let f = args.flow.now in
    let at = 120 * (r.result - 1) in
    let shown = digits (width (args.first to args.last)) args.value in
    let write : List ℕ → List ℕ = put (args.first - 1) shown in
    let same = r.ensures in
    let ends : at + 120 ≤ length f = omega arith in
    let lent : length (part at (at + 120 - at) f) ≡ at + 120 - at = part_length at (at + 120 - at) f (omega arith) in
    let inner : args.first - 1 + length shown ≤ 120 = omega (arith, written-length (width (args.first to args.last)) args.value) in
    let whole = part_length at 120 f ends in
    let size : length (write (part at 120 f)) ≡ 120 = put-length (args.first - 1) shown (part at 120 f) (omega arith) ∙ whole in
    let came = c.write_number.ensures ∙ written-within args.first args.last args.value (part at (at + 120 - at) f) (omega arith) (omega arith) in
    lent_changed at 120 f c.write_number.new.rec write size came ∙ sym (put-within at 120 (args.first - 1) shown f inner ends)
    ∙ ap (λ (m : ℕ). put (120 * (m - 1) + (args.first - 1)) shown f) same
