-- `records::check` meets its contract. Assumes nothing.
use Rattle.records.specs.RecordVerdict.{first_fault}
use Rattle.records.proofs.rules.check.Goals as goal

pub returns-else-holds : goal.returns-else-holds
unfolding first_fault
returns-else-holds c = λ rest. rw c.if-holds.false
