-- `flow::first_of` meets its contract. Assumes nothing.
use Rattle.flow.specs.Order.{among}
use Rattle.flow.proofs.order.first_of.Goals as goal

pub returns-then-has_type : goal.returns-then-has_type
unfolding among
returns-then-has_type c = rw (← c.has_type.ensures, c.if-has_type.true)

pub returns-else-has_type : goal.returns-else-has_type
unfolding among
returns-else-has_type c = rw (← c.has_type.ensures, c.if-has_type.false) c.only.ensures
