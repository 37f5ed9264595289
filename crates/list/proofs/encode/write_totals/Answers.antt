-- `list::write_totals` meets its contract. Assumes nothing.
use native.Mathlib.Omega.{arith}
use borrow.Author.Rules.{rules}
use Rattle.records.specs.FlowKinds.{total_at}
use Rattle.list.specs.Encode.{totals_placed}
use Rattle.list.proofs.Filling.{Fills, fills_none, fills_number}
use Rattle.list.proofs.encode.write_totals.Goals as goal

pub returns : goal.returns
returns c =
    let args = c.args in
    let t = args.totals in
    let all : Fills (totals_placed t) args.rec.now c.write_number-4.new.rec =
    fills_number 46 52 t.dispositions c.write_number.ensures (omega arith) (search rules)
    (fills_number 53 67 (total_at t.kind 53 t.cents) (rw c.total_at.ensures at c.write_number-2.ensures) (omega arith) (search rules)
    (fills_number 68 82 (total_at t.kind 68 t.cents) (rw c.total_at-2.ensures at c.write_number-3.ensures) (omega arith) (search rules)
    (fills_number 83 89 t.records c.write_number-4.ensures (omega arith) (search rules) fills_none))) in
    all.done
