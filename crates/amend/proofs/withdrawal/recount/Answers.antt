-- `amend::recount` meets its contract. Assumes nothing.
use Prim.Native.Nat.{ℕ, ◌+◌, ◌-◌, ◌*◌, ◌≤◌}
use mathlib.Core.Path.{◌≡◌, ◌∙◌, ap}
use native.Mathlib.Omega.{arith}
use lib.ListN.{length}
use Rattle.sequences.specs.Part.{part, put}
use Rattle.sequences.proofs.Part.{part_length, lent_changed}
use Rattle.amend.specs.Withdraw.{recounted}
use Rattle.amend.proofs.RulesKept.{recounted-length}
use Rattle.amend.proofs.withdrawal.recount.Goals as goal

pub returns : goal.returns
returns c =
    let r = c.as_index in
    let args = c.args in
    let f = args.flow.now in
    let t = args.totals in
    let at = 120 * (r.result - 1) in
    let same = r.ensures in
    let ends : at + 120 ≤ length f = omega arith in
    let size : length (recounted t (part at 120 f)) ≡ 120 = recounted-length t (part at 120 f) (part_length at 120 f ends) in
    lent_changed at 120 f c.write_totals.new.rec (recounted t) size c.write_totals.ensures
    ∙ ap (λ (m : ℕ). put (120 * (m - 1)) (recounted t (part (120 * (m - 1)) 120 f)) f) same
