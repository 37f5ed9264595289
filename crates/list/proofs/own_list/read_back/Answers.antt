-- `list::read_back` meets its contract. Assumes nothing.
use mathlib.Core.Bool.{true, false}
use mathlib.Core.Path.{◌≡◌, refl, sym, ◌∙◌}
use lib.Dec.{leb}
use lib.ListN.{length}
use borrow.Author.Tests.{le-leb, lt-leb}
use Rattle.flow.proofs.Accepted.{accepted_exact}
use Rattle.flow.proofs.Dispositions.{accepted-length}
use Rattle.std.proofs.Common.{rules}
use Rattle.std.specs.Prelude.{Err}
use Rattle.list.specs.ReadBack.{list_of, judge_room, read_back}
use Rattle.list.proofs.Answered.{filled_accepted}
use Rattle.list.proofs.own_list.read_back.Goals as goal

pub returns-in_err-totals : goal.returns-in_err-totals
unfolding read_back judge_room
returns-in_err-totals c =
    let passed_on : c.from_residual.result ≡ Err c.in_err-totals.field-0.0 = search rules in
    rw passed_on (rw (← c.in_err-totals.ensures) refl)

pub list_length-length-requires-clause-flow_len_bound : goal.list_length-length-requires-clause-flow_len_bound
list_length-length-requires-clause-flow_len_bound c = (accepted-length _ (sym c.in_ok-totals.ensures)).2

pub list_length-length-requires-clause-kind_value : goal.list_length-length-requires-clause-kind_value
list_length-length-requires-clause-kind_value c = (accepted_exact _ _ (sym c.in_ok-totals.ensures)).3

pub returns-then-out-length : goal.returns-then-out-length
unfolding read_back judge_room
returns-then-out-length c =
    let short : leb (length (list_of c.args.flow.now)) (length c.args.out.now) ≡ false = lt-leb _ _ (rw c.list_length-length.ensures at c.if-out-length.true) in
    rw (← c.in_ok-totals.ensures, short, c.refused_call.ensures) refl

pub store_list-requires-clause-kind_value : goal.store_list-requires-clause-kind_value
store_list-requires-clause-kind_value c = (accepted_exact _ _ (sym c.in_ok-totals.ensures)).3

pub returns : goal.returns
unfolding read_back judge_room
returns c =
    let flow = c.args.flow.now in
    let out = c.args.out.now in
    let size = c.list_length-length.ensures in
    let fits : leb (length (list_of flow)) (length out) ≡ true = le-leb _ _ (rw size at c.if-out-length.false) in
    filled_accepted _ (list_of flow) out _ (rw (← c.in_ok-totals.ensures, fits) refl) (c.as_count.ensures ∙ size) c.store_list.ensures
