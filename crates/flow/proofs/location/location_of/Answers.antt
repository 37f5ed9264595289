-- `flow::location_of` meets its contract. Assumes nothing.
use Prim.Native.Nat.{ℕ, suc, ◌+◌, ◌-◌}
use mathlib.Core.List.{List, []}
use mathlib.Core.Path.{◌≡◌, sym, ◌∙◌, ap}
use native.Mathlib.Numerals.{add-one}
use native.Mathlib.Omega.{arith}
use lib.ListN.{length, get_or}
use Rattle.fields.specs.Digits.{number}
use Rattle.records.specs.Amount.{amount_in}
use Rattle.flow.specs.Find.{dispositions_in, start_of, HasDisposition}
use Rattle.flow.proofs.Dispositions.{Disposition, disposition_at}
use Rattle.flow.proofs.Cut.{record_part}
use Rattle.flow.proofs.location.location_of.Goals as goal

-- the disposition at the start that was found
stood : (flow : List ℕ) (k at : ℕ) → HasDisposition flow k → at ≡ start_of (dispositions_in flow) k → Disposition flow at (get_or (dispositions_in flow) (k - 1) [])
stood flow k at has so = rw so (disposition_at flow k has)

pub overflow_add-at : goal.overflow_add-at
overflow_add-at c = let within = (stood _ _ _ c.requires c.start_of-at.ensures).within in omega arith

pub overflow_mul-at : goal.overflow_mul-at
overflow_mul-at c = let within = (stood _ _ _ c.requires c.start_of-at.ensures).within in omega arith

pub overflow_mul-at-2 : goal.overflow_mul-at-2
overflow_mul-at-2 c = let within = (stood _ _ _ c.requires c.start_of-at.ensures).within in omega arith

pub overflow_add-at-2 : goal.overflow_add-at-2
overflow_add-at-2 c = let within = (stood _ _ _ c.requires c.start_of-at.ensures).within in omega arith

pub slice_bounds-amount-end : goal.slice_bounds-amount-end
slice_bounds-amount-end c = let within = (stood _ _ _ c.requires c.start_of-at.ensures).within in omega arith

pub amount-cents-requires : goal.amount-cents-requires
amount-cents-requires c = rw (record_part c.start_of-at.result c.args.flow.now) (stood _ _ _ c.requires c.start_of-at.ensures).amount

pub returns : goal.returns
returns c =
    let f = c.args.flow.now in
    let at = c.start_of-at.result in
    let d = stood f c.args.k at c.requires c.start_of-at.ensures in
    let records = get_or (dispositions_in f) (c.args.k - 1) [] in
    let first : c.as_count.result ≡ suc (start_of (dispositions_in f) c.args.k) = c.as_count.ensures ∙ add-one at ∙ ap suc c.start_of-at.ensures in
    let end : c.next_opening-end.result ≡ at + length records = c.next_opening-end.ensures ∙ d.next in
    let size : c.as_count-2.result ≡ length records = c.as_count-2.ensures ∙ omega arith in
    let cents : c.amount-cents.result ≡ number (amount_in (get_or records 0 [])) = c.amount-cents.ensures ∙ ap (λ (r : List ℕ). number (amount_in r)) (record_part at f ∙ sym d.opening) in
    λ i. record { first = first i; records = size i; cents = cents i }
