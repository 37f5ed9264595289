-- One call on an accepted flow, beside one entry of the ledger. Assumes nothing.
use Prim.Native.Nat.{ℕ, ◌+◌, ◌-◌, ◌*◌, ◌≤◌}
use mathlib.Core.Bool.{Bool, true, false, cond, ◌&&◌}
use mathlib.Core.List.{List, ◌∷◌, ◌++◌, append-nil, map, map-append, flatten}
use mathlib.Core.Path.{◌≡◌, refl, sym, ◌∙◌, ap, ap₂, subst}
use native.Mathlib.Omega.{arith}
use lib.Dec.{leb, ltb}
use lib.ListN.{length, take, replicate}
use lib.Seq.{take-length}
use borrow.Author.Tests.{leb-true, le-leb, lt-leb, lt-ltb, le-ltb}
use Rattle.fields.specs.Amount.{IsAmount, is_amount}
use Rattle.fields.proofs.Amounts.{amount_test, no_amount}
use Rattle.records.specs.Limits.{most_cents}
use Rattle.records.specs.declared.flow_kind.FlowKind.{FlowKind}
use Rattle.flow.specs.Find.{IsNumber, find, with_totals, find_with_totals}
use Rattle.flow.specs.Judge.{judge}
use Rattle.flow.specs.Verdict.{Verdict, accepted, of_call}
use Rattle.flow.specs.Verdict.{Refusal}
use Rattle.flow.specs.declared.answer.Totals.{Totals}
use Rattle.flow.specs.declared.location.WithTotals.{WithTotals}
use Rattle.flow.proofs.Accepted.{accepted-not-refused, accepted-same}
use Rattle.flow.proofs.FindWithTotals.{read_found, find-reads}
use Rattle.grammar.specs.Grammar.{Typed, disposition_amount}
use Rattle.grammar.proofs.Grammar.{grammar_exact}
use Rattle.list.specs.Encode.{list_dispositions, list_cents, list_totals}
use Rattle.list.specs.Items.{Item}
use Rattle.list.specs.ReadBack.{items_of, Canonical}
use Rattle.list.proofs.OwnDispositions.{items_by, item_of_header, listed_so}
use Rattle.list.proofs.RecordsAgain.{own_item}
use Rattle.list.proofs.Rewritten.{own_list_items, own_sums}
use Rattle.amend.specs.Amended.{Amended, unchanged}
use Rattle.amend.specs.Change.{totals_changed, change}
use Rattle.amend.specs.Laws.{ChangeFault, not_read, no_disposition, not_an_amount, total_too_large, WithdrawFault, only_one}
use Rattle.amend.specs.Withdraw.{totals_left, withdraw}
use Rattle.amend.proofs.Neighbours.{Neighbours, neighbours_so, rest_of, changed_of}
use Rattle.amend.proofs.Answered.{changed_by, ChangeCase, change_case, changes, withdrawn_by, WithdrawCase, withdraw_case, withdraws, refuses, changed_grammar, withdrawn_grammar, refused_untouched, find_case, FindCase, is_there, unread, none}
use Rattle.amend.proofs.LeavesAndTouches.{change-touches, withdraw-touches, changed_flow, changed_read, changed-size, changed-whole, withdrawn_flow, withdrawn_read, withdrawn-length, withdrawn-size, withdrawn_front}
use Rattle.amend.proofs.PartsLeft.{typed_from, retold, here, after, changed_cents, changed_numbered}
use Rattle.claims.specs.Demand3.{TouchesOnly, number_of, Amends, Touched}
use Rattle.claims.specs.Ledger.{Call, change_of, withdrawal_of, change-accepted, withdrawal_accepted, call_refused, Entry, refused_entry, has, with_amount, without_disposition, change_leaving, change_on, withdraw_leaving, withdraw_on, entry, first_repriced}
use Rattle.claims.specs.Run.{Memory, flow_in, amend, reply_of}
use Rattle.claims.proofs.Canonical.{changed-canonical, withdrawn-canonical}
use Rattle.claims.proofs.Listed.{without_listed, amount_listed, typed_items, items_retold, items_cents}

-- memory that was made of the flow g, as long as `all`, beside a list: it holds a flow whose list this is, and blanks after it
pub record Held (g : List ℕ) (all : ℕ) (m : Memory) (list : List Item) : Type 0 where
  pub read : judge (flow_in m) ≡ accepted (list_totals list)
  pub items : items_of (flow_in m) ≡ list
  pub canonical : Canonical g → Canonical (flow_in m)
  pub sized : length (flow_in m) ≡ m.size
  pub within : m.size ≤ all
  pub memory : m.bytes ≡ flow_in m ++ replicate (all - m.size) 32

-- what a call leaves of the flow f, beside the ledger's entry
abbrev pub memory_of : Amended → Memory
memory_of a = record { bytes = a.bytes; size = a.size }

pub record Step (f : List ℕ) (call : Call) (a : Amended) (e : Entry) : Type 0 where
  pub held : Held f (length f) (memory_of a) e.items
  pub reply : reply_of call a ≡ e.reply

-- the totals of an accepted flow are those of its list
pub totals_listed : (f : List ℕ) (t : Totals) → judge f ≡ accepted t → list_totals (items_of f) ≡ t
totals_listed f t read =
    let g = (grammar_exact f t).0 read in
    ap list_totals (own_list_items f t g) ∙ own_sums f t g

-- what is held is known as a flow and as a list
pub held_as :
    (g : List ℕ) (all : ℕ) (m : Memory) (list : List Item) (left : List ℕ) {t : Totals} → flow_in m ≡ left → judge left ≡ accepted t → items_of left ≡ list
    → (Canonical g → Canonical left) → length left ≡ m.size → m.size ≤ all → m.bytes ≡ left ++ replicate (all - m.size) 32 → Held g all m list
held_as g all m list left {t} own read listed canonical size within memory =
    record {
      read = ap judge own ∙ read ∙ ap accepted (sym (totals_listed left t read) ∙ ap list_totals listed);
      items = ap items_of own ∙ listed;
      canonical = λ c. subst Canonical (sym own) (canonical c);
      sized = ap (λ (l : List ℕ). length l) own ∙ size;
      within = within;
      memory = memory ∙ ap (λ (l : List ℕ). l ++ replicate (all - m.size) 32) (sym own);
    }

-- a flow that is left at its length has no blanks after it
whole-memory : (f left : List ℕ) → left ≡ left ++ replicate (length f - length f) 32
whole-memory f left = let none_left : length f - length f ≡ 0 = omega arith in sym (append-nil left) ∙ ap (λ (m : ℕ). left ++ replicate m 32) (sym none_left)

-- whether the ledger has a disposition k
has-number : (k d : ℕ) (is : List Item) → list_dispositions is ≡ d → IsNumber k d → has k is ≡ true
has-number k d is count numbers =
    let low : leb 1 k ≡ true = le-leb 1 k numbers.0 in
    let high : leb k (list_dispositions is) ≡ true = ap (leb k) count ∙ le-leb k d numbers.1 in
    ap₂ (λ (a b : Bool). a && b) low high

has-none : (k d : ℕ) (is : List Item) → list_dispositions is ≡ d → ¬ IsNumber k d → has k is ≡ false
has-none k d is count absent = by (leb 1 k) (leb k d) refl refl
  where
    by : (a b : Bool) → leb 1 k ≡ a → leb k d ≡ b → has k is ≡ false
    by false b low high = ap₂ (λ (x y : Bool). x && y) low (ap (leb k) count ∙ high)
    by true false low high = ap₂ (λ (x y : Bool). x && y) low (ap (leb k) count ∙ high)
    by true true low high = absurd (absent (leb-true 1 k low, leb-true k d high))

-- a refused call beside a refusal on the ledger
module _ (f : List ℕ) (t : Totals) (read : judge f ≡ accepted t) where
  abbrev is : List Item
  is = items_of f

  kept_alone : (call : Call) (number : ℕ) → (e : Entry) → e ≡ refused_entry number is → Step f call (unchanged (of_call number) f) e
  kept_alone call number e same =
      subst (Step f call (unchanged (of_call number) f)) (sym same)
      (record { held = held_as f (length f) (memory_of (unchanged (of_call number) f)) is f (take-length f) read refl (λ canonical. canonical) refl (omega arith) (whole-memory f f); reply = told call })
    where
      told : (call : Call) → reply_of call (unchanged (of_call number) f) ≡ call_refused (of_call number)
      told (change_of k new) = refl
      told (withdrawal_of k) = refl

  count : list_dispositions is ≡ t.dispositions
  count = ap (λ (u : Totals). u.dispositions) (totals_listed f t read)

  numbers-same : (k : ℕ) {u : Totals} → judge f ≡ accepted u → (IsNumber k u.dispositions → IsNumber k t.dispositions) × (IsNumber k t.dispositions → IsNumber k u.dispositions)
  numbers-same k other =
      let equal = ap (λ (u : Totals). u.dispositions) (accepted-same (sym other ∙ read)) in
      (subst (IsNumber k) equal, subst (IsNumber k) (sym equal))

  found_number : (k : ℕ) (v : WithTotals) → find_with_totals f k ≡ accepted v → IsNumber k t.dispositions
  found_number k v found = go (find_with_totals f k) (find_case f k) found
    where
      go : (l : Verdict WithTotals) → FindCase f k l → l ≡ accepted v → IsNumber k t.dispositions
      go l (unread wrong) e = absurd (accepted-not-refused e)
      go l (none other absent) e = absurd (accepted-not-refused e)
      go l (is_there other place numbers) e = (numbers-same k other).0 numbers

  -- another amount on the ledger, and in the flow
  module _ (k new : ℕ) (v : WithTotals) (found : find_with_totals f k ≡ accepted v) (asked : IsAmount new) where
    abbrev w : Neighbours f k v
    w = neighbours_so f k found

    abbrev ds : List (List Typed)
    ds = changed_of f k v w new asked

    abbrev q : FlowKind
    q = v.totals.kind

    amount_so : with_amount k new is ≡ item_of_header q w.grammar.parts.header ∷ flatten (items_by q ds)
    amount_so =
        let right = here f v.totals w.grammar w.pre w.this w.post w.split in
        let same : items_by q ds ≡ items_by q w.pre ++ (first_repriced new (map (own_item q) w.this) ∷ items_by q w.post) = map-append (map (own_item q)) w.pre (retold new w.this ∷ w.post) ∙ ap (λ (l : List Item). items_by q w.pre ++ (l ∷ items_by q w.post)) (items_retold q new _ _ w.this right) in
        amount_listed f k v w new ∙ ap (λ (l : List (List Item)). item_of_header q w.grammar.parts.header ∷ flatten l) (sym same)

    amount_cents : list_cents (with_amount k new is) ≡ (totals_changed v new).cents
    unfolding list_cents
    amount_cents =
        let each = changed_numbered f v.totals w.grammar w.pre w.this w.post w.split new asked in
        let total = changed_cents f v.totals w.grammar w.pre w.this w.post w.split new asked in
        let own : v.totals.cents - disposition_amount w.this + new ≡ (totals_changed v new).cents = ap (λ (x : ℕ). v.totals.cents - x + new) (sym w.amount) in
        ap list_cents amount_so ∙ omega (arith, items_cents q _ 1 ds each)

  module _ (k new : ℕ) where
    -- of a disposition that there is, the new amount is asked first
    change_tested : has k is ≡ true → change_on k new is ≡ cond (is_amount new) (change_leaving (with_amount k new is) is) (refused_entry 16 is)
    unfolding change_on
    change_tested there = rw there

    change-refused : {x : Refusal} → ChangeFault f k new x → Step f (change_of k new) (unchanged x f) (change_on k new is)
    unfolding change_on
    change-refused (not_read x wrong) = absurd (accepted-not-refused (sym wrong ∙ read))
    change-refused (no_disposition u other absent) =
        let missing : has k is ≡ false = has-none k t.dispositions is count (λ numbers. absent ((numbers-same k other).1 numbers)) in
        kept_alone (change_of k new) 15 (change_on k new is) (rw missing)
    change-refused (not_an_amount u other numbers not-one) =
        let there : has k is ≡ true = has-number k t.dispositions is count ((numbers-same k other).0 numbers) in
        let refused_so : is_amount new ≡ false = (no_amount new).1 not-one in
        kept_alone (change_of k new) 16 (change_on k new is) (change_tested there ∙ rw refused_so)
    change-refused (total_too_large u s other place asked large) =
        let v = with_totals u s in
        let found = read_found f k other place in
        let there : has k is ≡ true = has-number k t.dispositions is count (found_number k v found) in
        let within : is_amount new ≡ true = (amount_test new).1 asked in
        let above : leb (list_cents (with_amount k new is)) most_cents ≡ false = ap (λ (x : ℕ). leb x most_cents) (amount_cents k new v found asked) ∙ lt-leb (totals_changed v new).cents most_cents large in
        kept_alone (change_of k new) 17 (change_on k new is) (change_tested there ∙ rw (within, above))

    change_made :
        (v : WithTotals) (found : find_with_totals f k ≡ accepted v) (asked : IsAmount new) (fits : (totals_changed v new).cents ≤ most_cents)
        → Step f (change_of k new) (changed_by v new f) (change_on k new is)
    unfolding change_on
    change_made v found asked fits =
        let w' = neighbours_so f k found in
        let left = changed_flow f k v found new asked fits in
        let whole : take (length f) left ≡ left = changed-whole f k v found new asked fits in
        let told : judge left ≡ accepted (totals_changed v new) = changed_read f k v found new asked fits in
        let g = changed_grammar f k v new w' asked fits in
        let listed : items_of left ≡ with_amount k new is = listed_so left (totals_changed v new) g ∙ sym (amount_so k new v found asked) in
        let there : has k is ≡ true = has-number k t.dispositions is count (found_number k v found) in
        let within : is_amount new ≡ true = (amount_test new).1 asked in
        let low : leb (list_cents (with_amount k new is)) most_cents ≡ true = ap (λ (x : ℕ). leb x most_cents) (amount_cents k new v found asked) ∙ le-leb (totals_changed v new).cents most_cents fits in
        let own : change_on k new is ≡ record { reply = change-accepted (list_totals (with_amount k new is)); items = with_amount k new is } = change_tested there ∙ rw (within, low) in
        let reply = ap change-accepted (sym (totals_listed left (totals_changed v new) told) ∙ ap list_totals listed) in
        let canonical : Canonical f → Canonical left = λ c. changed-canonical f k v w' c new asked fits in
        subst (Step f (change_of k new) _) (sym own) (record { held = held_as f (length f) _ (with_amount k new is) left whole told listed canonical (changed-size f k v found new asked fits) (omega arith) (whole-memory f left); reply = reply })

    pub change-step : Step f (change_of k new) (change f k new) (change_on k new is)
    change-step = go (change f k new) (change_case f k new)
      where
        go : (x : Amended) → ChangeCase f k new x → Step f (change_of k new) x (change_on k new is)
        go x (refuses fault) = change-refused fault
        go x (changes {v = v} found asked fits) = change_made v found asked fits

  -- a disposition less on the ledger, and in the flow
  module _ (k : ℕ) where
    withdraw-refused : {x : Refusal} → WithdrawFault f k x → Step f (withdrawal_of k) (unchanged x f) (withdraw_on k is)
    unfolding withdraw_on
    withdraw-refused (not_read x wrong) = absurd (accepted-not-refused (sym wrong ∙ read))
    withdraw-refused (no_disposition u other absent) =
        let missing : has k is ≡ false = has-none k t.dispositions is count (λ numbers. absent ((numbers-same k other).1 numbers)) in
        kept_alone (withdrawal_of k) 15 (withdraw_on k is) (rw missing)
    withdraw-refused (only_one u other alone one) =
        let there : has k is ≡ true = has-number k t.dispositions is count ((numbers-same k other).0 (omega arith, omega arith)) in
        let same = ap (λ (w : Totals). w.dispositions) (accepted-same (sym other ∙ read)) in
        let few : ltb 1 (list_dispositions is) ≡ false = le-ltb 1 (list_dispositions is) (omega (arith, count)) in
        kept_alone (withdrawal_of k) 18 (withdraw_on k is) (rw (there, few))

    withdraw_made :
        (v : WithTotals) (found : find_with_totals f k ≡ accepted v) (some : 2 ≤ v.totals.dispositions) → Step f (withdrawal_of k) (withdrawn_by k v f) (withdraw_on k is)
    unfolding withdraw_on
    withdraw_made v found some =
        let w' = neighbours_so f k found in
        let q : FlowKind = v.totals.kind in
        let left = withdrawn_flow f k v found some in
        let list = without_disposition k is in
        let front = withdrawn_front f k v found some in
        let told : judge left ≡ accepted (totals_left v) = withdrawn_read f k v found some in
        let g = withdrawn_grammar f k v w' some in
        let later = after f v.totals w'.grammar w'.pre w'.this w'.post w'.split in
        let same : items_by q (rest_of f k v w') ≡ items_by q w'.pre ++ items_by q w'.post = map-append (map (own_item q)) w'.pre (typed_from (1 + length w'.pre) w'.post) ∙ ap (λ (l : List (List Item)). items_by q w'.pre ++ l) (typed_items q _ _ _ w'.post later) in
        let listed : items_of left ≡ list = listed_so left (totals_left v) g ∙ ap (λ (l : List (List Item)). item_of_header q w'.grammar.parts.header ∷ flatten l) same ∙ sym (without_listed f k v w') in
        let there : has k is ≡ true = has-number k t.dispositions is count (found_number k v found) in
        let equal = ap (λ (u : Totals). u.dispositions) (totals_listed f v.totals (find-reads f k found).0) in
        let more : ltb 1 (list_dispositions is) ≡ true = lt-ltb 1 (list_dispositions is) (omega arith) in
        let own : withdraw_on k is ≡ withdraw_leaving list = rw (there, more) in
        let reply = ap (λ (u : Totals). withdrawal_accepted u (120 * u.records)) (sym (totals_listed left (totals_left v) told) ∙ ap list_totals listed) in
        let canonical : Canonical f → Canonical left = λ c. withdrawn-canonical f k v w' c some in
        subst (Step f (withdrawal_of k) _) (sym own) (record { held = held_as f (length f) _ list left front told listed canonical (withdrawn-length f k v found some) (withdrawn-size f k v found some) refl; reply = reply })

    pub withdraw-step : Step f (withdrawal_of k) (withdraw f k) (withdraw_on k is)
    withdraw-step = go (withdraw f k) (withdraw_case f k)
      where
        go : (x : Amended) → WithdrawCase f k x → Step f (withdrawal_of k) x (withdraw_on k is)
        go x (refuses fault) = withdraw-refused fault
        go x (withdraws {v = v} found some) = withdraw_made v found some

  -- so of either call
  pub one-step : (call : Call) → Step f call (amend call f) (entry call is)
  one-step (change_of k new) = change-step k new
  one-step (withdrawal_of k) = withdraw-step k

-- what was found was read, and what is then touched is what an accepted call touches
amends :
    (call : Call) (f : List ℕ) (a : Amended) {v : WithTotals} → find_with_totals f (number_of call) ≡ accepted v
    → (judge f ≡ accepted v.totals → find f (number_of call) ≡ accepted v.location → TouchesOnly call f a v) → Amends call f a
amends call f a {v} there touches =
    let both = find-reads f (number_of call) there in
    record { known = v; read = both.0; found = both.1; touches = touches both.0 both.1 }

-- which bytes a call touches
pub call_touched : (call : Call) (f : List ℕ) → Touched call f (amend call f)
call_touched (change_of k new) f =
    record { only = λ t same. go (change f k new) (change_case f k new) same; none = λ x same. (refused_untouched f k x).0 new same }
  where
    go : {t : Totals} (x : Amended) → ChangeCase f k new x → x.answer ≡ accepted t → Amends (change_of k new) f (change f k new)
    go x (refuses fault) same = absurd (accepted-not-refused same)
    go x (changes there asked fits) same = amends (change_of k new) f _ there (λ read found. change-touches f k new _ _ read found)
call_touched (withdrawal_of k) f =
    record { only = λ t same. go (withdraw f k) (withdraw_case f k) same same; none = λ x same. (refused_untouched f k x).1 same }
  where
    go :
        {t : Totals} (x : Amended) → WithdrawCase f k x → x.answer ≡ accepted t → (withdraw f k).answer ≡ accepted t
        → Amends (withdrawal_of k) f (withdraw f k)
    go x (refuses fault) same own = absurd (accepted-not-refused same)
    go x (withdraws there some) same own = amends (withdrawal_of k) f _ there (λ read found. (withdraw-touches f k _ _ _ read found own).0)
