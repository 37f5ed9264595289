-- `flow::only` meets its contract. Assumes nothing.
use mathlib.Core.Bool.{Bool, true, false, cond}
use mathlib.Core.Path.{◌≡◌, refl, ◌∙◌}
use Rattle.std.specs.Prelude.{Some, None}
use Rattle.std.specs.Bool.{then_some}
use Rattle.records.specs.declared.kind.RecordKind.{RecordKind}
use Rattle.flow.specs.Order.{among}
use Rattle.flow.proofs.order.only.Goals as goal

some_or_none : (b : Bool) (k : RecordKind) → then_some b k ≡ cond b (Some k) None
some_or_none true k = refl
some_or_none false k = refl

pub returns : goal.returns
unfolding among
returns c = c.then_some.ensures ∙ rw c.has_type.ensures (some_or_none _ _)
