-- What an amendment knows of disposition k, which stands in an accepted flow. Assumes nothing.
use Prim.Native.Nat.{ℕ, ◌+◌, ◌-◌, ◌*◌, ◌≤◌, ◌<◌}
use mathlib.Core.List.{List, [], flatten}
use mathlib.Core.Path.{◌≡◌, sym, ◌∙◌, ap}
use native.Mathlib.Omega.{arith}
use lib.ListN.{length, take, get_or}
use Rattle.std.specs.Prelude.{Result, Ok}
use Rattle.records.specs.Limits.{cents_limit, count_limit}
use Rattle.flow.specs.Find.{dispositions_in, find_with_totals}
use Rattle.flow.specs.Judge.{judge}
use Rattle.flow.specs.Verdict.{accepted, verdict}
use Rattle.flow.specs.declared.answer.Refusal.{Refusal}
use Rattle.flow.specs.declared.location.Location.{Location}
use Rattle.flow.specs.declared.location.WithTotals.{WithTotals}
use Rattle.flow.proofs.Dispositions.{dispositions-counted, found-has, found_within}
use Rattle.flow.proofs.FindWithTotals.{find-reads}
use Rattle.amend.proofs.Neighbours.{neighbours_so, size_so}
use Rattle.amend.proofs.PartsLeft.{below, count_split, cents_split}

pub record FoundFacts (f : List ℕ) (k : ℕ) (v : WithTotals) : Type 0 where
  pub read : judge f ≡ accepted v.totals
  pub some : 1 ≤ k
  pub within : k ≤ v.totals.dispositions
  -- the trailer's digits hold the counts
  pub few : v.totals.dispositions < count_limit
  pub cents : v.totals.cents < cents_limit
  pub records : v.totals.records < count_limit
  pub size : length f ≡ 120 * v.totals.records
  -- its amount is one of those that are summed
  pub share : v.location.cents ≤ v.totals.cents
  -- the header and the dispositions before it, then its records, and the trailer is not among them
  pub starts : v.location.first ≡ 2 + length (flatten (take (k - 1) (dispositions_in f)))
  pub own : v.location.records ≡ length (get_or (dispositions_in f) (k - 1) [])
  pub ends : v.location.first + v.location.records ≤ v.totals.records
  pub count : length (dispositions_in f) ≡ v.totals.dispositions

pub found_facts : (f : List ℕ) (k : ℕ) {v : WithTotals} → find_with_totals f k ≡ accepted v → FoundFacts f k v
found_facts f k {v} e =
    let both = find-reads f k e in
    let told = (found-has f k both.1).1 in
    let bounds = found_within f k both.1 in
    let w = neighbours_so f k e in
    let below = below f v.totals w.grammar w.pre w.this w.post w.split in
    let counted = count_split f v.totals w.grammar w.pre w.this w.post w.split in
    let summed = cents_split f v.totals w.grammar w.pre w.this w.post w.split in
    let size = size_so f v.totals w.grammar in
    record {
      read = both.0;
      some = omega (arith, w.numbered);
      within = omega (arith, w.numbered);
      few = below.0;
      cents = below.1;
      records = below.2;
      size = omega arith;
      share = omega (arith, w.amount);
      starts = ap (λ (x : Location). x.first) told ∙ omega arith;
      own = ap (λ (x : Location). x.records) told;
      ends = omega arith;
      count = dispositions-counted f both.0;
    }

-- the bounds that an amendment keeps to
pub bounds_found :
    (f : List ℕ) (k : ℕ) (v : WithTotals) → accepted v ≡ find_with_totals f k
    → (1 ≤ k) × (k < count_limit) × (v.totals.cents < cents_limit) × (v.totals.records < count_limit) × (v.location.cents ≤ v.totals.cents) × (2 ≤ v.location.first)
    × (v.location.first + v.location.records ≤ v.totals.records) × (length f ≡ 120 * v.totals.records)
bounds_found f k v e =
    let s = found_facts f k (sym e) in
    (s.some, omega arith, s.cents, s.records, s.share, omega arith, s.ends, s.size)

-- what was found stands there
pub found_there : (f : List ℕ) (k : ℕ) {a : Result WithTotals Refusal} {v : WithTotals} → verdict a ≡ find_with_totals f k → a ≡ Ok v → find_with_totals f k ≡ accepted v
found_there f k told is = sym told ∙ ap verdict is
