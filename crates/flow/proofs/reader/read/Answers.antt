-- `flow::read` meets its contract. Assumes nothing.
use mathlib.Core.Bool.{true, false}
use mathlib.Core.Path.{◌≡◌, sym, ◌∙◌}
use lib.ListN.{length}
use Rattle.flow.specs.Judge.{judge}
use Rattle.flow.specs.Records.{is_length}
use Rattle.flow.proofs.reader.read.Goals as goal

pub returns-then-not-is_length : goal.returns-then-not-is_length
unfolding judge
returns-then-not-is_length c =
    let wrong : is_length (length c.args.flow.now) ≡ false = sym c.is_length.ensures ∙ c.if-not-is_length.true in
    rw (wrong, c.refused_call.ensures)

pub returns : goal.returns
unfolding judge
returns c =
    let right : is_length (length c.args.flow.now) ≡ true = sym c.is_length.ensures ∙ c.if-not-is_length.false in
    rw right c.read_records.ensures
