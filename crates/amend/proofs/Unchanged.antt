-- What an amendment comes to by what was found: refused, it leaves what it was lent. Assumes nothing.
use Prim.Native.Nat.{ℕ, ◌*◌, ◌≤◌, ◌<◌}
use mathlib.Core.Bool.{true, false}
use mathlib.Core.List.{List}
use mathlib.Core.Path.{◌≡◌, sym, ◌∙◌, ap}
use lib.ListN.{length}
use borrow.Author.Tests.{le-leb, lt-leb, le-ltb, lt-ltb}
use Rattle.fields.specs.Amount.{is_amount}
use Rattle.records.specs.Limits.{most_cents}
use Rattle.flow.specs.Find.{find_with_totals}
use Rattle.flow.specs.Verdict.{Verdict, accepted, of_call}
use Rattle.flow.specs.declared.location.WithTotals.{WithTotals}
use Rattle.amend.specs.Amended.{unchanged, where_found}
use Rattle.amend.specs.Change.{totals_changed, changed, change_at, change}
use Rattle.amend.specs.Withdraw.{totals_left, withdrawn, withdraw_at, withdraw}

module _ (f : List ℕ) (k : ℕ) {l : Verdict WithTotals} (found : find_with_totals f k ≡ l) where
  pub change-found : (new : ℕ) → change f k new ≡ where_found l (λ (v : WithTotals). change_at v new f) f
  unfolding change
  change-found new = ap (λ (l : Verdict WithTotals). where_found l (λ (v : WithTotals). change_at v new f) f) found

  pub withdraw-found : withdraw f k ≡ where_found l (λ (v : WithTotals). withdraw_at k v f) f
  unfolding withdraw
  withdraw-found = ap (λ (l : Verdict WithTotals). where_found l (λ (v : WithTotals). withdraw_at k v f) f) found

module _ (f : List ℕ) (k : ℕ) {v : WithTotals} (found : find_with_totals f k ≡ accepted v) where
  pub no-amount : (new : ℕ) → is_amount new ≡ false → change f k new ≡ unchanged (of_call 16) f
  no-amount new none = change-found f k found new ∙ rw none

  pub too-large : (new : ℕ) → is_amount new ≡ true → most_cents < (totals_changed v new).cents → change f k new ≡ unchanged (of_call 17) f
  too-large new one large = change-found f k found new ∙ rw (one, lt-leb (totals_changed v new).cents most_cents large)

  pub change-made :
      (new : ℕ) → is_amount new ≡ true → (totals_changed v new).cents ≤ most_cents → (bytes : List ℕ) → bytes ≡ changed v.location.first new (totals_changed v new) f
      → record { answer = accepted (totals_changed v new); size = length f; bytes = bytes } ≡ change f k new
  change-made new one fits bytes so =
      ap (λ (l : List ℕ). record { answer = accepted (totals_changed v new); size = length f; bytes = l }) so
      ∙ sym (change-found f k found new ∙ rw (one, le-leb (totals_changed v new).cents most_cents fits))

  pub the-only : v.totals.dispositions ≤ 1 → withdraw f k ≡ unchanged (of_call 18) f
  the-only few = withdraw-found f k found ∙ rw (le-ltb 1 v.totals.dispositions few)

  pub withdrawal-made :
      1 < v.totals.dispositions → (bytes : List ℕ) → bytes ≡ withdrawn f k v.totals.records (totals_left v)
      → record { answer = accepted (totals_left v); size = 120 * (totals_left v).records; bytes = bytes } ≡ withdraw f k
  withdrawal-made some bytes so =
      ap (λ (l : List ℕ). record { answer = accepted (totals_left v); size = 120 * (totals_left v).records; bytes = l }) so
      ∙ sym (withdraw-found f k found ∙ rw (lt-ltb 1 v.totals.dispositions some))
