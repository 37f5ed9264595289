-- `records::amount_or_fault` meets its contract. Assumes nothing.
use Rattle.records.proofs.Settled.{amount_settled, amount_given}
use Rattle.records.proofs.rules.amount_or_fault.Goals as goal

pub returns-clause-checked : goal.returns-clause-checked
returns-clause-checked c = rw c.at.ensures (amount_settled _ c.told-rec _ c.amount.ensures)

pub returns-clause-value : goal.returns-clause-value
returns-clause-value c = rw c.at.ensures (amount_given _ c.told-rec _ c.amount.ensures)
