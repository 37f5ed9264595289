-- `records::write_number` meets its contract. Assumes nothing.
use native.Mathlib.Omega.{arith}
use Rattle.records.proofs.NumberWritten.{none_written}
use Rattle.records.proofs.position.write_number.Goals as goal

pub returns-then-to-from : goal.returns-then-to-from
returns-then-to-from c =
    let args = c.args in
    none_written args.first args.last args.value args.rec.now (omega (arith, c.saturating_sub-from.ensures, c.min-to.ensures))
