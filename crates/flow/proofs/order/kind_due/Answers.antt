-- `flow::kind_due` meets its contract. Assumes nothing.
use Rattle.flow.specs.Order.{among}
use Rattle.flow.proofs.order.kind_due.Goals as goal

pub returns-in-Nothing : goal.returns-in-Nothing
unfolding among
returns-in-Nothing c = rw c.in-Nothing.is
