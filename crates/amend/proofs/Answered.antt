-- When an amendment is refused and what it then leaves; and that the flow left by an accepted one is accepted with the numbers answered.
-- Assumes nothing.
use Prim.Native.Nat.{ℕ, suc, ◌+◌, ◌-◌, ◌*◌, ◌≤◌}
use mathlib.Core.Bool.{Bool, true, false, cond}
use mathlib.Core.List.{List, flatten}
use mathlib.Core.Logic.{◌⊎◌, inl, inr}
use mathlib.Core.Path.{◌≡◌, refl, sym, ◌∙◌, ap, subst}
use native.Mathlib.Omega.{arith}
use lib.Dec.{leb, ltb}
use lib.ListN.{length}
use borrow.Author.Tests.{leb-true, leb-false, ltb-true, ltb-false}
use Rattle.fields.specs.Amount.{IsAmount, is_amount}
use Rattle.fields.proofs.Amounts.{amount_test, no_amount}
use Rattle.records.specs.Limits.{most_cents}
use Rattle.flow.specs.Find.{IsNumber, find, with_totals, find_with_totals}
use Rattle.flow.specs.Judge.{judge}
use Rattle.flow.specs.Verdict.{Verdict, accepted, refused, of_call}
use Rattle.flow.specs.Verdict.{Refusal}
use Rattle.flow.specs.declared.answer.Totals.{Totals}
use Rattle.flow.specs.declared.location.Location.{Location}
use Rattle.flow.specs.declared.location.WithTotals.{WithTotals}
use Rattle.flow.proofs.Accepted.{accepted-not-refused, accepted-same, refused-same}
use Rattle.flow.proofs.Dispositions.{find-refused, find_so, found-has}
use Rattle.flow.proofs.FindWithTotals.{read_found, not_found}
use Rattle.flow.proofs.FindWithTotals.{not_read as unread-so}
use Rattle.grammar.specs.Grammar.{disposition_amount, Grammar}
use Rattle.amend.specs.Amended.{Amended, unchanged, where_found}
use Rattle.amend.specs.Change.{totals_changed, changed, change_at, change}
use Rattle.amend.specs.Laws.{ChangeFault, not_read, no_disposition, not_an_amount, total_too_large, ChangeRefused, WithdrawFault, only_one, WithdrawRefused, Untouched, RefusedUntouched}
use Rattle.amend.specs.Withdraw.{totals_left, records_left, withdrawn, withdraw_at, withdraw}
use Rattle.amend.proofs.Unchanged.{change-found, withdraw-found, no-amount, too-large, the-only}
use Rattle.amend.proofs.Neighbours.{Neighbours, kind_so, rest_of, withdrawn-left, changed_of, changed-left}
use Rattle.amend.proofs.PartsLeft.{left_with, rest-count, rest_cents, rest-records, rest-right, changed-count, changed_cents, changed-records, changed-right}

-- what finding answers: the flow is not read, or it has no such disposition, or it is there
pub data FindCase (f : List ℕ) (k : ℕ) : Verdict WithTotals → Type 0 where
  unread : {x : Refusal} → judge f ≡ refused x → FindCase f k (refused x)
  none : {t : Totals} → judge f ≡ accepted t → ¬ IsNumber k t.dispositions → FindCase f k (refused (of_call 15))
  is_there : {v : WithTotals} → judge f ≡ accepted v.totals → find f k ≡ accepted v.location → IsNumber k v.totals.dispositions → FindCase f k (accepted v)

pub find_case : (f : List ℕ) (k : ℕ) → FindCase f k (find_with_totals f k)
find_case f k = by (judge f) (find f k) refl refl
  where
    by : (v : Verdict Totals) (l : Verdict Location) → judge f ≡ v → find f k ≡ l → FindCase f k (find_with_totals f k)
    by (refused x) l wrong found = subst (FindCase f k) (sym (unread-so f k wrong)) (unread wrong)
    by (accepted t) (accepted place) read found =
        let s = (found-has f k found).0 in
        let within : k ≤ t.dispositions = subst (λ (u : Totals). k ≤ u.dispositions) (accepted-same (sym s.read ∙ read)) s.within in
        subst (FindCase f k) (sym (read_found f k read found)) (is_there read found (s.some, within))
    by (accepted t) (refused x) read found = told ((find-refused f k x).0 found)
      where
        told : (judge f ≡ refused x) ⊎ ((t : Totals) × (judge f ≡ accepted t) × ¬ IsNumber k t.dispositions × (x ≡ of_call 15)) → FindCase f k (find_with_totals f k)
        told (inl wrong) = absurd (accepted-not-refused (sym wrong ∙ read))
        told (inr h) = subst (FindCase f k) (sym (not_found f k found ∙ ap refused h.3)) (none h.1 h.2)

-- a change is refused for its fault, or made
abbrev pub changed_by : WithTotals → ℕ → List ℕ → Amended
changed_by v new f = record { answer = accepted (totals_changed v new); size = length f; bytes = changed v.location.first new (totals_changed v new) f }

pub data ChangeCase (f : List ℕ) (k new : ℕ) : Amended → Type 0 where
  refuses : {x : Refusal} → ChangeFault f k new x → ChangeCase f k new (unchanged x f)
  changes : {v : WithTotals} → find_with_totals f k ≡ accepted v → IsAmount new → (totals_changed v new).cents ≤ most_cents → ChangeCase f k new (changed_by v new f)

pub change_case : (f : List ℕ) (k new : ℕ) → ChangeCase f k new (change f k new)
unfolding change
change_case f k new = by (find_with_totals f k) (find_case f k)
  where
    made : {v : WithTotals} → judge f ≡ accepted v.totals → find f k ≡ accepted v.location → IsNumber k v.totals.dispositions → ChangeCase f k new (change_at v new f)
    made {v} read found numbers = amount (is_amount new) refl
      where
        total : ℕ
        total = (totals_changed v new).cents

        sum : IsAmount new → (b : Bool) → leb total most_cents ≡ b → ChangeCase f k new (cond b (changed_by v new f) (unchanged (of_call 17) f))
        sum asked true t = changes (read_found f k read found) asked (leb-true total most_cents t)
        sum asked false t = refuses (total_too_large v.totals v.location read found asked (leb-false total most_cents t))

        amount : (b : Bool) → is_amount new ≡ b
            → ChangeCase f k new (cond b (cond (leb total most_cents) (changed_by v new f) (unchanged (of_call 17) f)) (unchanged (of_call 16) f))
        amount true t = sum ((amount_test new).0 t) (leb total most_cents) refl
        amount false t = refuses (not_an_amount v.totals read numbers ((no_amount new).0 t))

    by : (l : Verdict WithTotals) → FindCase f k l → ChangeCase f k new (where_found l (λ (v : WithTotals). change_at v new f) f)
    by l (unread wrong) = refuses (not_read _ wrong)
    by l (none read absent) = refuses (no_disposition _ read absent)
    by l (is_there read found numbers) = made read found numbers

-- a withdrawal likewise
abbrev pub withdrawn_by : ℕ → WithTotals → List ℕ → Amended
withdrawn_by k v f = record { answer = accepted (totals_left v); size = 120 * (totals_left v).records; bytes = withdrawn f k v.totals.records (totals_left v) }

pub data WithdrawCase (f : List ℕ) (k : ℕ) : Amended → Type 0 where
  refuses : {x : Refusal} → WithdrawFault f k x → WithdrawCase f k (unchanged x f)
  withdraws : {v : WithTotals} → find_with_totals f k ≡ accepted v → 2 ≤ v.totals.dispositions → WithdrawCase f k (withdrawn_by k v f)

pub withdraw_case : (f : List ℕ) (k : ℕ) → WithdrawCase f k (withdraw f k)
unfolding withdraw
withdraw_case f k = by (find_with_totals f k) (find_case f k)
  where
    made : {v : WithTotals} → judge f ≡ accepted v.totals → find f k ≡ accepted v.location → IsNumber k v.totals.dispositions → WithdrawCase f k (withdraw_at k v f)
    made {v} read found numbers = others (ltb 1 v.totals.dispositions) refl
      where
        others : (b : Bool) → ltb 1 v.totals.dispositions ≡ b → WithdrawCase f k (cond b (withdrawn_by k v f) (unchanged (of_call 18) f))
        others true t = withdraws (read_found f k read found) (ltb-true 1 v.totals.dispositions t)
        others false t =
            let low = numbers.0 in
            let high = numbers.1 in
            let few : v.totals.dispositions ≤ 1 = ltb-false 1 v.totals.dispositions t in
            refuses (only_one v.totals read (omega arith) (omega arith))

    by : (l : Verdict WithTotals) → FindCase f k l → WithdrawCase f k (where_found l (λ (v : WithTotals). withdraw_at k v f) f)
    by l (unread wrong) = refuses (not_read _ wrong)
    by l (none read absent) = refuses (no_disposition _ read absent)
    by l (is_there read found numbers) = made read found numbers

-- what is found in a flow that has no such disposition, and of one that has
module _ (f : List ℕ) (k : ℕ) {t : Totals} (read : judge f ≡ accepted t) where
  absent_so : ¬ IsNumber k t.dispositions → find_with_totals f k ≡ refused (of_call 15)
  absent_so absent = not_found f k ((find-refused f k (of_call 15)).1 (inr (t, read, absent, refl)))

  numbers_so : IsNumber k t.dispositions → (s : Location) × (find_with_totals f k ≡ accepted (with_totals t s))
  numbers_so numbers =
      let low = numbers.0 in
      let high = numbers.1 in
      let one : suc (k - 1) ≡ k = omega arith in
      let found = ap (find f) (sym one) ∙ find_so f (k - 1) read (omega arith) in
      (_, read_found f k read found)

pub change-refused : ChangeRefused
change-refused f k new x = (said (change f k new) (change_case f k new), tested)
  where
    said : (a : Amended) → ChangeCase f k new a → a.answer ≡ refused x → ChangeFault f k new x
    said a (refuses fault) same = subst (ChangeFault f k new) (refused-same same) fault
    said a (changes found asked fits) same = absurd (accepted-not-refused (sym same))

    answers : {l : Verdict WithTotals} → find_with_totals f k ≡ l → (change f k new).answer ≡ (where_found l (λ (v : WithTotals). change_at v new f) f).answer
    answers e = ap (λ (a : Amended). a.answer) (change-found f k e new)

    tested : {x : Refusal} → ChangeFault f k new x → (change f k new).answer ≡ refused x
    tested (not_read x wrong) = answers (unread-so f k wrong)
    tested (no_disposition t read absent) = answers (absent_so f k read absent)
    tested (not_an_amount t read numbers not-one) = ap (λ (a : Amended). a.answer) (no-amount f k (numbers_so f k read numbers).1 new ((no_amount new).1 not-one))
    tested (total_too_large t s read found asked large) = ap (λ (a : Amended). a.answer) (too-large f k (read_found f k read found) new ((amount_test new).1 asked) large)

pub withdraw-refused : WithdrawRefused
withdraw-refused f k x = (said (withdraw f k) (withdraw_case f k), tested)
  where
    said : (a : Amended) → WithdrawCase f k a → a.answer ≡ refused x → WithdrawFault f k x
    said a (refuses fault) same = subst (WithdrawFault f k) (refused-same same) fault
    said a (withdraws found some) same = absurd (accepted-not-refused (sym same))

    answers : {l : Verdict WithTotals} → find_with_totals f k ≡ l → (withdraw f k).answer ≡ (where_found l (λ (v : WithTotals). withdraw_at k v f) f).answer
    answers e = ap (λ (a : Amended). a.answer) (withdraw-found f k e)

    tested : {x : Refusal} → WithdrawFault f k x → (withdraw f k).answer ≡ refused x
    tested (not_read x wrong) = answers (unread-so f k wrong)
    tested (no_disposition t read absent) = answers (absent_so f k read absent)
    tested (only_one t read count one) = ap (λ (a : Amended). a.answer) (the-only f k (numbers_so f k read (omega arith, omega arith)).1 (omega arith))

pub refused_untouched : RefusedUntouched
refused_untouched f k x = (λ new. changed-not new (change f k new) (change_case f k new), withdrawn-not (withdraw f k) (withdraw_case f k))
  where
    changed-not : (new : ℕ) (a : Amended) → ChangeCase f k new a → a.answer ≡ refused x → Untouched f a
    changed-not new a (refuses fault) same = (refl, refl)
    changed-not new a (changes found asked fits) same = absurd (accepted-not-refused (sym same))

    withdrawn-not : (a : Amended) → WithdrawCase f k a → a.answer ≡ refused x → Untouched f a
    withdrawn-not a (refuses fault) same = (refl, refl)
    withdrawn-not a (withdraws found some) same = absurd (accepted-not-refused (sym same))

-- what is left, as a flow of the grammar
abbrev pub changed_grammar :
    (f : List ℕ) (k : ℕ) (v : WithTotals) (new : ℕ) (w : Neighbours f k v) (asked : IsAmount new) → (totals_changed v new).cents ≤ most_cents
    → Grammar (changed v.location.first new (totals_changed v new) f) (totals_changed v new)
changed_grammar f k v new w asked fits =
    let g = w.grammar in
    let t = v.totals in
    let total : t.cents - v.location.cents + new ≡ t.cents - disposition_amount w.this + new = ap (λ (x : ℕ). t.cents - x + new) w.amount in
    let kind = kind_so f t g in
    let count = changed-count f t g w.pre w.this w.post w.split new asked in
    let cents = changed_cents f t g w.pre w.this w.post w.split new asked ∙ sym total in
    let records = changed-records f t g w.pre w.this w.post w.split new asked in
    record {
      parts = left_with g.parts (changed_of f k v w new asked);
      bytes = sym (changed-left f k v w new asked);
      right = changed-right f t g w.pre w.this w.post w.split new asked (omega arith);
      totals = λ i. record { kind = kind i; dispositions = count i; cents = cents i; records = records i };
    }

abbrev pub withdrawn_grammar :
    (f : List ℕ) (k : ℕ) (v : WithTotals) (w : Neighbours f k v) → 2 ≤ v.totals.dispositions
    → Grammar (flatten (records_left f k v.totals.records (totals_left v))) (totals_left v)
withdrawn_grammar f k v w some =
    let g = w.grammar in
    let t = v.totals in
    let kind = kind_so f t g in
    let count = rest-count f t g w.pre w.this w.post w.split in
    let cents = rest_cents f t g w.pre w.this w.post w.split ∙ ap (λ (x : ℕ). t.cents - x) (sym w.amount) in
    let records = rest-records f t g w.pre w.this w.post w.split ∙ ap (λ (x : ℕ). t.records - x) (sym w.sized) in
    record {
      parts = left_with g.parts (rest_of f k v w);
      bytes = sym (withdrawn-left f k v w);
      right = rest-right f t g w.pre w.this w.post w.split some;
      totals = λ i. record { kind = kind i; dispositions = count i; cents = cents i; records = records i };
    }
