-- What an amendment leaves: a flow that is accepted, blanks after it, and each byte that it does not name as it was. Assumes nothing.
use Prim.Native.Nat.{ℕ, suc, ◌+◌, ◌-◌, ◌*◌, ◌/◌, ◌≤◌, ◌<◌}
use mathlib.Core.List.{List, [], ◌∷◌, ◌++◌, append-nil, append_assoc, map, flatten}
use mathlib.Core.Path.{◌≡◌, refl, sym, ◌∙◌, ap, subst}
use native.Mathlib.Omega.{arith}
use Rattle.std.specs.Prelude.{Result, Ok, Err}
use lib.ListN.{length, take, drop, get_or, replicate, length-append, get_or-append}
use lib.Seq.{take_at, take-length, get_or-append_seam, get_or-append-add}
use Rattle.sequences.specs.Pairs.{Pairs}
use Rattle.sequences.specs.Part.{put}
use Rattle.sequences.proofs.All.{all_append, all-before, all_after}
use Rattle.sequences.proofs.Flatten.{flatten-append}
use Rattle.sequences.proofs.Pairs.{pairs_length, pairs_append, pairs_at, pairs_map}
use Rattle.sequences.proofs.Part.{put-length, get_d_put_elsewhere}
use Rattle.fields.specs.Amount.{IsAmount}
use Rattle.fields.specs.Digits.{digits}
use Rattle.fields.proofs.Decimal.{written-length}
use Rattle.records.specs.Amount.{amount_span}
use Rattle.records.specs.Field.{Span, ◌to◌, first_of, last_of, width, byte_at}
use Rattle.records.specs.FlowKinds.{total_span}
use Rattle.records.specs.Limits.{most_cents}
use Rattle.flow.specs.Find.{dispositions_in, find_with_totals}
use Rattle.flow.specs.Judge.{judge}
use Rattle.flow.specs.Records.{record_at, records_of}
use Rattle.flow.specs.Verdict.{accepted}
use Rattle.flow.specs.declared.answer.Refusal.{Refusal as Code-Refusal}
use Rattle.flow.specs.declared.answer.Totals.{Totals}
use Rattle.flow.specs.declared.location.Location.{Location}
use Rattle.flow.specs.declared.location.WithTotals.{WithTotals}
use Rattle.flow.proofs.Accepted.{accepted-not-refused, accepted-same, accepted_exact, answer_determined}
use Rattle.flow.proofs.Cut.{Whole, cut-count, cut_at, flatten-length, joined_records}
use Rattle.flow.proofs.Dispositions.{found_within}
use Rattle.flow.proofs.FindWithTotals.{find-reads}
use Rattle.grammar.specs.Fault.{company_of}
use Rattle.grammar.proofs.Grammar.{grammar_exact}
use Rattle.amend.specs.Amended.{Amended, withdrawn_amended, written_in_record}
use Rattle.amend.specs.declared.withdrawal.Withdrawn.{Withdrawn}
use Rattle.amend.specs.Change.{totals_changed, changed, change}
use Rattle.amend.specs.Laws.{flow_left, LeavesAccepted, ChangeLeaves, WithdrawLeaves, Lies, AmountOnly, ChangeTouches, Outside, SameBut, Moved, WithdrawTouches, AmendedDetermined, WithdrawnDetermined}
use Rattle.amend.specs.Withdraw.{renumbered, numbered_from, totals_left, recounted, records_left, withdrawn, withdraw}
use Rattle.amend.proofs.Neighbours.{Neighbours, neighbours_so}
use Rattle.amend.proofs.Answered.{ChangeCase, change_case, WithdrawCase, withdraw_case, refuses, changes, withdraws, changed_grammar, withdrawn_grammar}
use Rattle.amend.proofs.PartsLeft.{company_kept, rest-codes, changed-codes}
use Rattle.amend.proofs.RecordsAround.{before, own, after, trailer, records_split, pieces}
use Rattle.amend.proofs.RulesKept.{over_length, total-place, total_from, with_count, with_total, count-length, total-length, recounted-length}
use Rattle.amend.proofs.FoundFacts.{FoundFacts, found_facts}

-- the flow that a change leaves, and a withdrawal
module _ (f : List ℕ) (k : ℕ) (v : WithTotals) (found : find_with_totals f k ≡ accepted v) where
  abbrev here : Neighbours f k v
  here = neighbours_so f k found

  size-before : v.totals.records * 120 ≡ length f
  size-before = (accepted_exact f v.totals (find-reads f k found).0).2

  module _ (new : ℕ) (asked : IsAmount new) (fits : (totals_changed v new).cents ≤ most_cents) where
    abbrev pub changed_flow : List ℕ
    changed_flow = changed v.location.first new (totals_changed v new) f

    pub changed_read : judge changed_flow ≡ accepted (totals_changed v new)
    changed_read = (grammar_exact changed_flow (totals_changed v new)).1 (changed_grammar f k v new here asked fits)

    pub changed-company : company_of (records_of changed_flow) ≡ company_of (records_of f)
    changed-company =
        company_kept f v.totals here.grammar changed_flow (totals_changed v new) (changed_grammar f k v new here asked fits) (changed-codes f v.totals here.grammar here.pre here.this here.post here.split new asked)

    pub changed-size : length changed_flow ≡ length f
    changed-size = sym (accepted_exact changed_flow (totals_changed v new) changed_read).2 ∙ size-before

    pub changed-whole : take (length f) changed_flow ≡ changed_flow
    changed-whole = ap (λ (l : ℕ). take l changed_flow) (sym changed-size) ∙ take-length changed_flow

  module _ (some : 2 ≤ v.totals.dispositions) where
    abbrev left : ℕ
    left = (totals_left v).records

    abbrev pub withdrawn_flow : List ℕ
    withdrawn_flow = flatten (records_left f k v.totals.records (totals_left v))

    pub withdrawn_read : judge withdrawn_flow ≡ accepted (totals_left v)
    withdrawn_read = (grammar_exact withdrawn_flow (totals_left v)).1 (withdrawn_grammar f k v here some)

    pub withdrawn-company : company_of (records_of withdrawn_flow) ≡ company_of (records_of f)
    withdrawn-company =
        company_kept f v.totals here.grammar withdrawn_flow (totals_left v) (withdrawn_grammar f k v here some) (rest-codes f v.totals here.grammar here.pre here.this here.post here.split)

    pub withdrawn-size : 120 * left ≤ length f
    withdrawn-size = omega (arith, size-before)

    pub withdrawn-length : length withdrawn_flow ≡ 120 * left
    withdrawn-length = omega (arith, (accepted_exact withdrawn_flow (totals_left v) withdrawn_read).2)

    pub withdrawn_front : take (120 * left) (withdrawn f k v.totals.records (totals_left v)) ≡ withdrawn_flow
    withdrawn_front = take_at withdrawn_flow (replicate (length f - 120 * left) 32) (120 * left) withdrawn-length

pub change_leaves : ChangeLeaves
change_leaves f k new t same = go (change f k new) (change_case f k new) same
  where
    go : (x : Amended) → ChangeCase f k new x → x.answer ≡ accepted t → LeavesAccepted f x t
    go x (refuses fault) same = absurd (accepted-not-refused same)
    go x (changes {v = v} found asked fits) same =
        let left = changed_flow f k v found new asked fits in
        let whole = changed-whole f k v found new asked fits in
        let none : length f - length f ≡ 0 = omega arith in
        record {
          read = ap judge whole ∙ changed_read f k v found new asked fits ∙ same;
          within = omega arith;
          memory = sym (append-nil left) ∙ (λ i. sym whole i ++ replicate (sym none i) 32);
          company = ap (λ (l : List ℕ). company_of (records_of l)) whole ∙ changed-company f k v found new asked fits;
        }

pub withdraw_leaves : WithdrawLeaves
withdraw_leaves f k t same = go (withdraw f k) (withdraw_case f k) same
  where
    go : (x : Amended) → WithdrawCase f k x → x.answer ≡ accepted t → LeavesAccepted f x t
    go x (refuses fault) same = absurd (accepted-not-refused same)
    go x (withdraws {v = v} found some) same =
        let own = withdrawn_front f k v found some in
        record {
          read = ap judge own ∙ withdrawn_read f k v found some ∙ same;
          within = withdrawn-size f k v found some;
          memory = ap (λ (l : List ℕ). l ++ replicate (length f - 120 * (totals_left v).records) 32) (sym own);
          company = ap (λ (l : List ℕ). company_of (records_of l)) own ∙ withdrawn-company f k v found some;
        }

-- digits written over positions of a record of a flow, and any index that does not lie there
written_elsewhere :
    (r : ℕ) (s : Span) (w v i : ℕ) (f : List ℕ) → last_of s ≡ first_of s - 1 + w → 120 * (r - 1) + last_of s ≤ length f → ¬ Lies i r s
    → get_or (written_in_record r (first_of s) (digits w v) f) i 0 ≡ get_or f i 0
written_elsewhere r s w v i f wide fits outside =
    let size = written-length w v in
    get_d_put_elsewhere (120 * (r - 1) + (first_of s - 1)) (digits w v) f (omega arith) i (λ h. outside (record { starts = h.0; ends = omega (arith, h.1) }))

written-size : (r p w v : ℕ) (f : List ℕ) → 120 * (r - 1) + (p - 1) + w ≤ length f → length (written_in_record r p (digits w v) f) ≡ length f
written-size r p w v f fits = put-length (120 * (r - 1) + (p - 1)) (digits w v) f (omega (arith, written-length w v))

pub change-touches : ChangeTouches
change-touches f k new t s read found = go (change f k new) (change_case f k new)
  where
    go : (x : Amended) → ChangeCase f k new x → AmountOnly f x.bytes t s.first
    go x (refuses fault) = record { sizes = refl; bytes = λ i u v. refl }
    go x (changes {v = g} there asked fits) =
        let both = find-reads f k there in
        let same = accepted-same (sym both.0 ∙ read) in
        let place = ap (λ (u : Location). u.first) (accepted-same (sym both.1 ∙ found)) in
        let within = found_within f k both.1 in
        let size = (accepted_exact f g.totals both.0).2 in
        let first = g.location.first in
        let n = g.totals.records in
        let span = total_span g.totals.kind in
        let wide = total-place g.totals.kind in
        let total = (totals_changed g new).cents in
        let one = written_in_record first (first_of amount_span) (digits (width amount_span) new) f in
        let kept : length one ≡ length f = written-size first (first_of amount_span) (width amount_span) new f (omega arith) in
        record {
          sizes = written-size n (first_of span) 15 total one (omega arith) ∙ kept;
          bytes = λ i u v.
              written_elsewhere n span 15 total i one wide.1 (omega arith) (λ l. v (subst (λ (x : Totals). Lies i x.records (total_span x.kind)) same l))
              ∙ written_elsewhere first amount_span (width amount_span) new i f refl (omega arith) (λ l. u (subst (λ (r : ℕ). Lies i r amount_span) place l));
        }

-- a record with digits written over, and any byte that does not lie there
over_elsewhere : (a w v : ℕ) (rec : List ℕ) → length rec ≡ 120 → a + w ≤ 120 → (p : ℕ) → 1 ≤ p → ¬ ((suc a ≤ p) × (p ≤ a + w)) → byte_at p (put a (digits w v) rec) ≡ byte_at p rec
over_elsewhere a w v rec whole fits p one outside =
    let size = written-length w v in
    get_d_put_elsewhere a (digits w v) rec (omega arith) (p - 1) (λ h. let low = h.0 in let high = h.1 in outside (omega arith, omega arith))

renumbered-same : (j : ℕ) (rec : List ℕ) → length rec ≡ 120 → SameBut ((4 to 10) ∷ []) (renumbered j rec) rec
renumbered-same j rec whole =
    record {
      sizes = over_length 3 7 j rec whole (omega arith) ∙ sym whole;
      bytes = λ p one o. over_elsewhere 3 7 j rec whole (omega arith) p one o.0;
    }

-- outside of spans, the first of which is not known by its numbers
outside_first : (s : Span) (ss : List Span) (p : ℕ) → Outside (s ∷ ss) p → (¬ ((first_of s ≤ p) × (p ≤ last_of s))) × Outside ss p
outside_first (a to e) ss p o = o

recounted-same : (t : Totals) (rec : List ℕ) → length rec ≡ 120 → SameBut ((46 to 52) ∷ total_span t.kind ∷ (83 to 89) ∷ []) (recounted t rec) rec
recounted-same t rec whole =
    let span = total_span t.kind in
    let place = total-place t.kind in
    record {
      sizes = recounted-length t rec whole ∙ sym whole;
      bytes = λ p some o.
          let others = outside_first span ((83 to 89) ∷ []) p o.1 in
          over_elsewhere 82 7 t.records (with_total t rec) (total-length t rec whole) (omega arith) p some others.1.0
          ∙ over_elsewhere (total_from t.kind) 15 t.cents (with_count t rec) (count-length t rec whole) (omega arith) p some (λ h. let low = h.0 in let high = h.1 in others.0 (omega arith, omega arith))
          ∙ over_elsewhere 45 7 t.dispositions rec whole (omega arith) p some o.0;
    }

-- the records of later dispositions, each beside the one that it came from
later_same : (j : ℕ) (ds : List (List (List ℕ))) → Whole (flatten ds) → Pairs (SameBut ((4 to 10) ∷ [])) (flatten (numbered_from j ds)) (flatten ds)
unfolding flatten numbered_from
later_same j [] whole = tt
later_same j (d ∷ ds) whole =
    let P : List ℕ → Type 0 = λ rec. length rec ≡ 120 in
    let R = SameBut ((4 to 10) ∷ []) in
    pairs_append R (map (renumbered j) d) d (flatten (numbered_from (suc j) ds)) (flatten ds)
    (pairs_map R (renumbered j) P (renumbered-same j) d (all-before P d (flatten ds) whole))
    (later_same (suc j) ds (all_after P d (flatten ds) whole))

same_whole : (ss : List Span) (xs ys : List (List ℕ)) → Pairs (SameBut ss) xs ys → Whole ys → Whole xs
same_whole ss [] [] pairs whole = tt
same_whole ss [] (y ∷ ys) pairs whole = absurd pairs
same_whole ss (x ∷ xs) [] pairs whole = absurd pairs
same_whole ss (x ∷ xs) (y ∷ ys) pairs whole = (pairs.0.sizes ∙ whole.0, same_whole ss xs ys pairs.1 whole.1)

-- the records of a flow, and of the flow left without disposition k
module _ {f : List ℕ} {k : ℕ} {v : WithTotals} (s : FoundFacts f k v) where
  -- how many records there are, and which go
  abbrev n : ℕ
  n = v.totals.records

  abbrev first : ℕ
  first = v.location.first

  abbrev m : ℕ
  m = v.location.records

  abbrev renewed : List (List ℕ)
  renewed = flatten (numbered_from k (drop k (dispositions_in f)))

  abbrev recount : List ℕ
  recount = recounted (totals_left v) (trailer s)

  abbrev was : List (List ℕ)
  was = before s ++ (own s ++ (after s ++ (trailer s ∷ [])))

  abbrev now : List (List ℕ)
  now = before s ++ (renewed ++ (recount ∷ []))

  pairs : Pairs (SameBut ((4 to 10) ∷ [])) renewed (after s)
  pairs = later_same k (drop k (dispositions_in f)) (pieces s).2

  now_whole : Whole now
  now_whole =
      let Sized : List ℕ → Type 0 = λ rec. length rec ≡ 120 in
      all_append Sized (before s) (renewed ++ (recount ∷ [])) (pieces s).0
      (all_append Sized renewed (recount ∷ []) (same_whole ((4 to 10) ∷ []) renewed (after s) pairs (pieces s).2) (recounted-length (totals_left v) (trailer s) (pieces s).3, tt))

  now_so : records_left f k n (totals_left v) ≡ now
  now_so =
      let taken = take (k - 1) (dispositions_in f) in
      ap (λ (l : List (List ℕ)). (record_at 0 f ∷ l) ++ (recount ∷ [])) (flatten-append taken (numbered_from k (drop k (dispositions_in f))))
      ∙ ap (λ (l : List (List ℕ)). record_at 0 f ∷ l) (append_assoc (flatten taken) renewed (recount ∷ []))

  -- how many records stand in each part
  counts : (length (before s) ≡ first - 1) × (length (own s) ≡ m) × (length renewed ≡ length (after s)) × (n ≡ first - 1 + (m + (length (after s) + 1))) × (1 ≤ first)
  counts =
      let starts = s.starts in
      let mine = s.own in
      let size = s.size in
      let total : length (records_of f) ≡ length was = ap (λ (l : List (List ℕ)). length l) (records_split s) in
      let one = length-append (before s) (own s ++ (after s ++ (trailer s ∷ []))) in
      let two = length-append (own s) (after s ++ (trailer s ∷ [])) in
      let three = length-append (after s) (trailer s ∷ []) in
      (omega arith, sym mine, pairs_length (SameBut ((4 to 10) ∷ [])) renewed (after s) pairs, omega (arith, cut-count (length f / 120) f), omega arith)

  -- the record at an index of each
  was_at : (i : ℕ) → i < n → record_at i f ≡ get_or was i []
  was_at i h =
      let size = s.size in
      sym (cut_at (length f / 120) i f (omega arith)) ∙ ap (λ (l : List (List ℕ)). get_or l i []) (records_split s)

  now_at : (i : ℕ) → i < n - m → record_at i (flatten (records_left f k n (totals_left v))) ≡ get_or now i []
  now_at i h =
      let told = counts in
      let one = length-append (before s) (renewed ++ (recount ∷ [])) in
      let two = length-append renewed (recount ∷ []) in
      let size = flatten-length now now_whole in
      ap (λ (l : List (List ℕ)). record_at i (flatten l)) now_so ∙ sym (cut_at (length (flatten now) / 120) i (flatten now) (omega arith)) ∙ ap (λ (l : List (List ℕ)). get_or l i []) (joined_records now now_whole)

  moved : Moved f (flatten (records_left f k n (totals_left v))) v.totals first m
  moved =
      let told = counts in
      let R = SameBut ((4 to 10) ∷ []) in
      let back = renewed ++ (recount ∷ []) in
      let rest = after s ++ (trailer s ∷ []) in
      record {
        before = λ r some less.
            now_at (r - 1) (omega arith) ∙ get_or-append (before s) back [] (r - 1) (omega arith)
            ∙ sym (was_at (r - 1) (omega arith) ∙ get_or-append (before s) (own s ++ rest) [] (r - 1) (omega arith));
        after = λ r from less.
            let j = r - first in
            let here : r - 1 ≡ length (before s) + j = omega arith in
            let there : r + m - 1 ≡ length (before s) + (length (own s) + j) = omega arith in
            let new = now_at (r - 1) (omega arith) ∙ ap (λ (i : ℕ). get_or now i []) here ∙ get_or-append-add (before s) back j [] ∙ get_or-append renewed (recount ∷ []) [] j (omega arith) in
            let old = was_at (r + m - 1) (omega arith) ∙ ap (λ (i : ℕ). get_or was i []) there ∙ get_or-append-add (before s) (own s ++ rest) (length (own s) + j) [] ∙ get_or-append-add (own s) rest j [] ∙ get_or-append (after s) (trailer s ∷ []) [] j (omega arith) in
            subst (λ (A : Type 0). A) (λ i. R (sym new i) (sym old i)) (pairs_at R renewed (after s) [] [] j pairs (omega arith));
        trailer =
            let here : n - m - 1 ≡ length (before s) + length renewed = omega arith in
            let new = now_at (n - m - 1) (omega arith) ∙ ap (λ (i : ℕ). get_or now i []) here ∙ get_or-append-add (before s) back (length renewed) [] ∙ get_or-append_seam renewed recount [] [] in
            subst (λ (rec : List ℕ). SameBut ((46 to 52) ∷ total_span v.totals.kind ∷ (83 to 89) ∷ []) rec (trailer s)) (sym new) (recounted-same (totals_left v) (trailer s) (pieces s).3);
      }

pub withdraw-touches : WithdrawTouches
withdraw-touches f k t left s read found same = go (withdraw f k) (withdraw_case f k) same
  where
    go : (x : Amended) → WithdrawCase f k x → x.answer ≡ accepted left → Moved f (flow_left x) t s.first s.records × (left.records ≡ t.records - s.records)
    go x (refuses fault) same = absurd (accepted-not-refused same)
    go x (withdraws {v = g} there some) same =
        let both = find-reads f k there in
        let all = accepted-same (sym both.0 ∙ read) in
        let place = accepted-same (sym both.1 ∙ found) in
        let told = ap (λ (u : Totals). u.records) (accepted-same same) in
        let own = sym (withdrawn_front f k g there some) in (
          subst (λ (A : Type 0). A) (λ i. Moved f (own i) (all i) (place i).first (place i).records) (moved (found_facts f k there)),
          sym told ∙ (λ i. (all i).records - (place i).records),
        )

pub amended_determined : AmendedDetermined
amended_determined r s size size' bytes bytes' e = (answer_determined r s (ap (λ (a : Amended). a.answer) e), ap (λ (a : Amended). a.size) e, ap (λ (a : Amended). a.bytes) e)

pub withdrawn_determined : WithdrawnDetermined
withdrawn_determined r s lent lent' bytes bytes' = same r s
  where
    same : (r s : Result Withdrawn Code-Refusal) → withdrawn_amended lent r bytes ≡ withdrawn_amended lent' s bytes' → (r ≡ s) × (bytes ≡ bytes')
    same (Ok w) (Ok x) e = (λ i. Ok (record { totals = accepted-same (ap (λ (a : Amended). a.answer) e) i; length = (e i).size }), ap (λ (a : Amended). a.bytes) e)
    same (Ok w) (Err x) e = absurd (accepted-not-refused (sym (ap (λ (a : Amended). a.answer) e)))
    same (Err x) (Ok w) e = absurd (accepted-not-refused (ap (λ (a : Amended). a.answer) e))
    same (Err x) (Err y) e =
        let told = answer_determined (Err x) (Err y) (ap (λ (a : Amended). a.answer) e) in
        (cc, ap (λ (a : Amended). a.bytes) e)
