-- `list::first_item` meets its contract. Assumes nothing.
use mathlib.Core.Path.{sym}
use native.Mathlib.Omega.{arith}
use Rattle.list.proofs.Parsing.{empty_none, unknown_none, short_none, item_first}
use Rattle.list.proofs.item.first_item.Goals as goal

pub returns-in_err-byte : goal.returns-in_err-byte
returns-in_err-byte c = rw c.from_residual.ensures (empty_none _ c.in_err-byte.ensures.cases)

pub returns-in_err-kind : goal.returns-in_err-kind
returns-in_err-kind c = rw (c.from_residual-in_err-kind.ensures, c.in_ok-byte.ensures.cases.0) (unknown_none _ _ (sym c.in_err-kind.ensures))

pub returns-then-rest-size : goal.returns-then-rest-size
returns-then-rest-size c = rw c.in_ok-byte.ensures.cases.0 (short_none _ _ _ (sym c.in_ok-kind.ensures) (omega arith))

pub returns : goal.returns
returns c =
    rw (c.in_ok-byte.ensures.cases.0, c.split_at.ensures.front, c.split_at.ensures.back, c.body_length-size.ensures) (item_first _ _ _ (sym c.in_ok-kind.ensures) (omega arith))
