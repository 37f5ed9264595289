-- `flow::find_with_totals` meets its contract. Assumes nothing.
use Prim.Native.Nat.{ℕ, ◌≤◌, ◌<◌}
use mathlib.Core.Bool.{true, false, ◌&&◌}
use mathlib.Core.Logic.{◌⊎◌, inl, inr}
use mathlib.Core.Path.{◌≡◌, sym}
use native.Mathlib.Omega.{arith}
use lib.Dec.{leb}
use borrow.Author.Tests.{le-leb, lt-leb}
use Rattle.std.proofs.Common.{rules}
use Rattle.std.specs.Prelude.{Err}
use Rattle.flow.proofs.Dispositions.{has-disposition}
use Rattle.flow.proofs.FindWithTotals.{not_read, no_number, numbered}
use Rattle.flow.proofs.location.find_with_totals.Goals as goal

-- a number that a disposition has, and one that none has
is_number : (k d : ℕ) → ¬ (k ≡ 0) → k ≤ d → (leb 1 k && leb k d) ≡ true
is_number k d some within = rw (le-leb 1 k (omega arith), le-leb k d within)

is_none : (k d : ℕ) → (k ≡ 0) ⊎ (¬ (k ≡ 0) × (d < k)) → (leb 1 k && leb k d) ≡ false
is_none k d (inl none) = rw none
is_none k d (inr above) = rw (le-leb 1 k (omega (arith, above.0)), lt-leb k d above.1)

pub returns-in_err-totals : goal.returns-in_err-totals
returns-in_err-totals c =
    let passed_on : c.from_residual.result ≡ Err c.in_err-totals.field-0.0 = search rules in
    rw passed_on (sym (not_read _ _ (sym c.in_err-totals.ensures)))

pub returns-then-k-eq0 : goal.returns-then-k-eq0
returns-then-k-eq0 c = rw c.refused_call.ensures (sym (no_number _ _ (sym c.in_ok-totals.ensures) (is_none _ _ c.then-k-eq0.either)))

pub location_of-location-requires : goal.location_of-location-requires
location_of-location-requires c = has-disposition _ _ (sym c.in_ok-totals.ensures) (is_number _ _ c.if-k-eq0.false c.if-totals-k.false)

pub returns : goal.returns
returns c = sym (numbered _ _ (sym c.in_ok-totals.ensures) (is_number _ _ c.if-k-eq0.false c.if-totals-k.false) c.location_of-location.ensures)
