-- What the demands shut out, by the two-rent flow and the empty one. Assumes nothing.
use Prim.Native.Nat.{ℕ, suc, ◌≤◌, ◌<◌}
use mathlib.Core.Bool.{Bool, true, false, cond}
use mathlib.Core.List.{List, [], ◌∷◌, ◌++◌, flatten}
use mathlib.Core.Path.{◌≡◌, refl, sym, ◌∙◌, ap}
use native.Mathlib.Omega.{arith}
use lib.Dec.{leb}
use lib.ListN.{length, take, drop, get_or}
use Rattle.sequences.specs.Every.{every}
use Rattle.sequences.specs.All.{All}
use Rattle.sequences.specs.Groups.{lead, groups}
use Rattle.sequences.specs.Part.{put}
use Rattle.sequences.specs.Text.{text}
use Rattle.sequences.proofs.All.{all_get_d, all_map}
use Rattle.fields.specs.Amount.{IsAmount}
use Rattle.fields.specs.Bytes.{is_equal}
use Rattle.fields.specs.Calendar.{is_leap, days_in, is_day}
use Rattle.fields.specs.Digits.{number_from, number, digits}
use Rattle.records.specs.Amount.{amount_in}
use Rattle.records.specs.Bytes.{bad_from}
use Rattle.records.specs.Checks.{is_listed, checks}
use Rattle.records.specs.Company.{company_in}
use Rattle.records.specs.Field.{field}
use Rattle.records.specs.FlowKinds.{causale, kind_among}
use Rattle.records.specs.Kinds.{is_opening}
use Rattle.records.specs.declared.flow_kind.FlowKind.TheVariants.{Requests, Recalls}
use Rattle.records.specs.RecordVerdict.{first_fault}
use Rattle.records.specs.Judge.{judge_as}
use Rattle.flow.specs.Examples.{flow_of, header_im, trailer_ef, second, further59, first_closed, with_further, two_rents, two_rent_totals, two_recalls, two_recall_totals, no_codes, one_cent_asked, one_cent_totals}
use Rattle.flow.specs.ExactTotals.{kind_from}
use Rattle.flow.specs.Judge.{walk_from, judge}
use Rattle.flow.specs.Order.{among}
use Rattle.flow.specs.Records.{cut, record_at, records_of}
use Rattle.flow.specs.Walking.{judge_typed, judge_record}
use Rattle.flow.specs.Verdict.{Verdict, accepted, refused, refusal, of_call}
use Rattle.flow.specs.Verdict.{Refusal}
use Rattle.flow.specs.declared.answer.Totals.{Totals}
use Rattle.flow.proofs.Accepted.{accepted-not-refused, accepted-same, accepted_exact}
use Rattle.flow.proofs.Dispositions.{each_asks}
use Rattle.flow.proofs.Examples.{examples as flow}
use Rattle.grammar.specs.Fault.{company_of, FaultAfter, bad_byte_lem}
use Rattle.grammar.proofs.FirstFault.{first_fault_exact}
use Rattle.grammar.proofs.Grammar.{grammar_exact}
use Rattle.grammar.proofs.KindsOfFlow.{kind_rules}
use Rattle.grammar.proofs.Parts.{one-kind, one-company}
use Rattle.list.specs.Encode.{fill, body_placed, encode_item, encode_from, encode_trailer, last_header, list_dispositions, list_cents, encode}
use Rattle.list.specs.Examples.{header_item, second_items}
use Rattle.list.specs.Items.{Item, items, items_from, parse, items_in}
use Rattle.list.specs.ReadBack.{items_of}
use Rattle.list.specs.Same.{are_same}
use Rattle.list.specs.Table.{first_row}
use Rattle.list.specs.Write.{judge_items, judge_list}
use Rattle.list.proofs.Answered.{write_leaves}
use Rattle.list.proofs.Examples.{examples as list}
use Rattle.amend.specs.Amended.{Amended}
use Rattle.amend.proofs.Answered.{change-refused, withdraw-refused}
use Rattle.evenings.specs.Account.{Keep, Drop, Add, count_lines, kept_lines}
use Rattle.evenings.specs.Compare.{account_between}
use Rattle.evenings.specs.Computed.{kept_with, most_kept, lines_with, account_of}
use Rattle.evenings.specs.Examples.{swapped_rents}
use Rattle.evenings.specs.Requests.{requests_of}
use Rattle.evenings.proofs.Exact.{account_exact}
use Rattle.evenings.proofs.Refused.{are_same_decides}
use Rattle.claims.specs.Demand3.{KeepsLedger}
use Rattle.claims.specs.Excludes.{Reader, AcceptsExactly, RefusesFirst, Refuses, LowestNumber, Mixed, AsksForNothing, last_wrong, ChangesFaithfully, WithdrawsFaithfully, Service, Serves, Comparer, ComparesRight, drops_all, one_further, other_further, LibraryMeets, Excludes}
use Rattle.claims.specs.Ledger.{Call, change_of, withdrawal_of, call_refused, with_amount, without_disposition, change_on, withdraw_on, list_after, replies_on}
use Rattle.claims.specs.Run.{Memory, holding, flow_in}
use Rattle.claims.proofs.Demand3.{demand3}
use Rattle.claims.proofs.Examples.{examples}

-- a reader that meets demand 2 accepts where the reader of the library does, and only there
reads_so : (read : Reader) → AcceptsExactly read → (f : List ℕ) (t : Totals) → judge f ≡ accepted t → read f ≡ accepted t
reads_so read exact f t e = (exact f t).1 ((grammar_exact f t).0 e)

read_so : (read : Reader) → AcceptsExactly read → (f : List ℕ) (t : Totals) → read f ≡ accepted t → judge f ≡ accepted t
read_so read exact f t e = (grammar_exact f t).1 ((exact f t).0 e)

two_read : (read : Reader) → AcceptsExactly read → read two_rents ≡ accepted two_rent_totals
two_read read exact = reads_so read exact two_rents two_rent_totals flow.two_rents_lem

-- an answer that is accepted is no refusal
not-refused : {v : Verdict Totals} {t : Totals} → v ≡ accepted t → ¬ Refuses v
not-refused a (x, e) = accepted-not-refused (sym e ∙ a)

one-reply : (read : Reader) → AcceptsExactly read → (v : Verdict Totals) → ¬ ((f : List ℕ) → read f ≡ v)
one-reply read exact v all =
    let empty : read [] ≡ accepted two_rent_totals = all [] ∙ sym (all two_rents) ∙ two_read read exact in
    accepted-not-refused (sym flow.empty ∙ read_so read exact [] two_rent_totals empty)

-- an amendment that meets demand 1 does not refuse where the library's accepts
changes_so : (amend : List ℕ → ℕ → ℕ → Amended) → ChangesFaithfully amend → ¬ Refuses (amend two_rents 2 40000).answer
changes_so amend faithful (x, e) = accepted-not-refused (sym ((change-refused two_rents 2 40000 x).1 (faithful two_rents 2 40000 x e)) ∙ examples.two.0)

withdraws_so : (amend : List ℕ → ℕ → Amended) → WithdrawsFaithfully amend → ¬ Refuses (amend two_rents 1).answer
withdraws_so amend faithful (x, e) = accepted-not-refused (sym ((withdraw-refused two_rents 1 x).1 (faithful two_rents 1 x e)) ∙ examples.three.0)

-- the calls, and what the ledger has after them
abbrev first : Call
first = change_of 2 40000

abbrev both : List Call
both = first ∷ change_of 1 1 ∷ []

first_total : list_cents (list_after (first ∷ []) (items_of two_rents)) ≡ 85000
unfolding kind_among kind_from cut flatten first_row is_equal number_from digits groups lead list_dispositions list_cents with_amount change_on list_after
first_total = refl

both-total : list_cents (list_after both (items_of two_rents)) ≡ 40001
unfolding kind_among kind_from cut flatten first_row is_equal number_from digits groups lead list_dispositions list_cents with_amount change_on list_after
both-total = refl

one_left : list_dispositions (list_after (withdrawal_of 1 ∷ []) (items_of two_rents)) ≡ 1
unfolding kind_among kind_from cut flatten first_row is_equal number_from digits groups lead list_dispositions without_disposition withdraw_on list_after
one_left = refl

list_left : list_after (withdrawal_of 1 ∷ []) (items_of two_rents) ≡ items_in (flow_of (header_item ++ second_items))
unfolding kind_among kind_from cut flatten first_row is_equal number_from digits groups lead list_dispositions without_disposition withdraw_on list_after items_from
list_left = refl

nothing_left : (replies_on (change_of 2 0 ∷ []) (items_of two_rents) ≡ call_refused (of_call 16) ∷ []) × (list_after (change_of 2 0 ∷ []) (items_of two_rents) ≡ items_of two_rents)
unfolding kind_among kind_from cut flatten first_row is_equal list_dispositions change_on list_after replies_on
nothing_left = (refl, refl)

-- what a service that meets demand 3 leaves of the two-rent flow
module _ (serve : Service) (serves : Serves serve) where
  abbrev left : List Call → List ℕ
  left calls = flow_in (serve calls two_rents).after

  kept : (calls : List Call) → KeepsLedger two_rents calls (serve calls two_rents).after (serve calls two_rents).answers
  kept = serves two_rents two_rent_totals flow.two_rents_lem

  first_left : (t : Totals) → judge (left (first ∷ [])) ≡ accepted t → t.cents ≡ 85000
  first_left t e = ap (λ (u : Totals). u.cents) (accepted-same (sym e ∙ (kept (first ∷ [])).read)) ∙ first_total

  both_left : (t : Totals) → judge (left both) ≡ accepted t → t.cents ≡ 40001
  both_left t e = ap (λ (u : Totals). u.cents) (accepted-same (sym e ∙ (kept both).read)) ∙ both-total

  changed : ¬ ((serve (first ∷ []) two_rents).after ≡ holding two_rents)
  changed same =
      let none : ◌≡◌ {A = ℕ} 83050 85000 = first_left two_rent_totals (ap (λ (m : Memory). judge (flow_in m)) same ∙ flow.two_rents_lem) in
      omega arith

  changed_again : ¬ ((serve both two_rents).after ≡ (serve (first ∷ []) two_rents).after)
  changed_again same =
      let again = both_left _ (ap (λ (m : Memory). judge (flow_in m)) same ∙ (kept (first ∷ [])).read) in
      omega (arith, first_total)

  withdrawn : (t : Totals) → judge (left (withdrawal_of 1 ∷ [])) ≡ accepted t → t.dispositions ≡ 1
  withdrawn t e = ap (λ (u : Totals). u.dispositions) (accepted-same (sym e ∙ (kept (withdrawal_of 1 ∷ [])).read)) ∙ one_left

  not_to_nothing : ((serve (change_of 2 0 ∷ []) two_rents).answers ≡ call_refused (of_call 16) ∷ []) × (left (change_of 2 0 ∷ []) ≡ two_rents)
  not_to_nothing =
      let keeps = kept (change_of 2 0 ∷ []) in
      (keeps.answered ∙ nothing_left.0, keeps.canonical list.canonical ∙ ap encode nothing_left.1 ∙ list.canonical)

  moved : left (withdrawal_of 1 ∷ []) ≡ encode (items_in (flow_of (header_item ++ second_items)))
  moved = (kept (withdrawal_of 1 ∷ [])).canonical list.canonical ∙ ap encode list_left

-- a reader that meets demand 1 refuses where the reader of the library does
refuses_so : (read : Reader) → RefusesFirst read → (f : List ℕ) (x : Refusal) → judge f ≡ refused x → read f ≡ refused x
refuses_so read exact f x e = (exact f x).1 ((first_fault_exact f x).0 e)

-- the second rent alone under the two-rent header, with a line end before its 20: record 2 has a wrong number, and record 3 a byte outside 32
-- to 126, which has a lower one
abbrev two_faults : List ℕ
two_faults = put 240 (10 ∷ []) (flow_of (header_im ∷ (second ++ (trailer_ef ∷ []))))

lowest_record : judge two_faults ≡ refused (refusal 9 2 4)
unfolding kind_among judge walk_from cut judge_record judge_typed among judge_as first_fault checks bad_from is_equal number_from is_day days_in is_leap
lowest_record = refl

later_fault : FaultAfter two_faults (take 2 (records_of two_faults)) (record_at 2 two_faults) 2 1
later_fault = bad_byte_lem [] 10 (drop 1 (record_at 2 two_faults)) refl tt (λ h. omega (arith, h.0))

later_stands : records_of two_faults ≡ take 2 (records_of two_faults) ++ (record_at 2 two_faults ∷ drop 3 (records_of two_faults))
unfolding cut
later_stands = refl

not_lowest : (read : Reader) → RefusesFirst read → ¬ LowestNumber read
not_lowest read exact lowest =
    let none : 9 ≤ 2 = lowest two_faults (refusal 9 2 4) (refuses_so read exact two_faults (refusal 9 2 4) lowest_record) _ _ _ 2 1 later_stands later_fault in
    omega arith

mixed_judged : (judge (with_further (take 1 first_closed ++ (further59 ∷ []))) ≡ refused (refusal 3 7 2)) × (judge (with_further (further59 ∷ take 1 first_closed)) ≡ refused (refusal 3 7 2))
unfolding kind_among judge walk_from cut judge_record judge_typed among judge_as first_fault checks bad_from is_equal number_from is_day days_in is_leap
mixed_judged = (refl, refl)

-- with room the last record is refused, without it the call
last_judged : judge_items (items_in last_wrong) ≡ refused (refusal 6 15 94)
unfolding kind_among judge_items encode_from encode_item fill body_placed flatten items_from first_row digits walk_from judge_record judge_typed among judge_as first_fault checks bad_from is_equal number_from is_day days_in is_leap
last_judged = refl

last_read : parse last_wrong ≡ items (items_in last_wrong)
unfolding items_from first_row
last_read = refl

last-count : suc (length (items_in last_wrong)) ≡ 16
unfolding items_from first_row
last-count = refl

last-refused : (room : ℕ) → Refuses (judge_list last_wrong room)
unfolding judge_list
last-refused room = rw (last_read, last-count) (by (leb 1920 room))
  where
    by : (b : Bool) → Refuses (cond b (judge_items (items_in last_wrong)) (refused (of_call 21)))
    by true = (refusal 6 15 94, last_judged)
    by false = (of_call 21, refl)

-- where all records 14 have the same, no two differ
not-mixed : (something : List ℕ → List ℕ) (f : List ℕ) (same : List ℕ) → All (λ (rec : List ℕ). is_opening rec ≡ true → something rec ≡ same) (records_of f) → ¬ Mixed something f
not-mixed something f same all mixed = mixed.differ (has mixed.one mixed.there.0 mixed.openings.0 ∙ sym (has mixed.other mixed.there.1 mixed.openings.1))
  where
    has : (i : ℕ) → i < length (records_of f) → let rec = get_or (records_of f) i [] in is_opening rec ≡ true → something rec ≡ same
    has i within = all_get_d (λ (rec : List ℕ). is_opening rec ≡ true → something rec ≡ same) (records_of f) i [] within all

-- of a flow that is accepted all have one causale
mixed-refused : (read : Reader) → AcceptsExactly read → (f : List ℕ) → Mixed (field 29 33) f → ¬ ((t : Totals) × (read f ≡ accepted t))
mixed-refused read exact f mixed (t, e) =
    not-mixed (field 29 33) f (causale t.kind) (all_map (λ rec kept opening. ((kind_rules t.kind rec).0 (kept opening)).0) (records_of f) (one-kind f t (read_so read exact f t e))) mixed

-- and each of them asks for something
nothing-refused : (read : Reader) → AcceptsExactly read → (f : List ℕ) → AsksForNothing f → ¬ ((t : Totals) × (read f ≡ accepted t))
nothing-refused read exact f none (t, e) =
    let asks = all_get_d (λ (rec : List ℕ). is_opening rec ≡ true → IsAmount (number (amount_in rec))) (records_of f) none.one [] none.there (each_asks f t (read_so read exact f t e)) in
    omega (arith, (asks none.opening).0, none.nothing)

recalls_differ : Requests ≡ Recalls → ⊥
recalls_differ e = let z : ◌≡◌ {A = ℕ} 0 1 = cc in omega arith

-- the recall of both rents is canonical, so that what is left of it is what the ledger's list encodes
recall-total :
    (serve : Service) → Serves serve → let trailer = record_at 15 (flow_in (serve (change_of 2 40000 ∷ []) two_recalls).after) in
    (field 53 67 trailer ≡ text "000000000000000") × (field 68 82 trailer ≡ text "000000000085000")
unfolding kind_among kind_from cut flatten first_row is_equal number_from digits groups lead last_header list_dispositions list_cents with_amount change_on list_after encode_from encode_item encode_trailer fill body_placed
recall-total serve serves =
    let left = (serves two_recalls two_recall_totals flow.two_recalls_lem (change_of 2 40000 ∷ [])).canonical list.recalls_canonical in
    (ap (λ (f : List ℕ). field 53 67 (record_at 15 f)) left, ap (λ (f : List ℕ). field 68 82 (record_at 15 f)) left)

-- two comparisons that are right give one account
one-account :
    (compare : Comparer) → ComparesRight compare → (old new : List ℕ) (t u : Totals) → judge old ≡ accepted t → judge new ≡ accepted u → account_between old new ≡ compare old new
one-account compare right old new t u read read' = (right old new t u read read').only (account_between old new) (account_exact (List Item) are_same are_same_decides (requests_of old) (requests_of new)).preferred

-- the flows are accepted, and what is computed for them
abbrev EveningFacts : Type 0
EveningFacts =
    (judge swapped_rents ≡ accepted two_rent_totals)
    × (judge (one_further further59) ≡ accepted (record { kind = Requests; dispositions = 1; cents = 45000; records = 9 }))
    × (judge (one_further other_further) ≡ accepted (record { kind = Requests; dispositions = 1; cents = 45000; records = 9 }))
    × (account_between (one_further further59) (one_further other_further) ≡ Drop ∷ Add ∷ [])
    × (account_between two_rents swapped_rents ≡ Drop ∷ Keep ∷ Add ∷ [])
    × (kept_lines (account_between two_rents two_rents) ≡ 2)
    × (kept_lines (drops_all two_rents two_rents) ≡ 0)

evening_facts : EveningFacts
unfolding kind_among kind_from judge walk_from cut judge_record judge_typed among judge_as first_fault checks bad_from is_equal number_from digits is_day days_in is_leap flatten fill body_placed encode_item encode_trailer encode_from last_header list_dispositions list_cents items_from first_row lead groups are_same count_lines kept_with most_kept lines_with account_of
evening_facts = (refl, refl, refl, refl, refl, refl, refl)

pub excludes : Excludes
excludes =
    record {
      refuses_everything = λ read exact all. not-refused (two_read read exact) (all two_rents);
      one-reply = λ read exact (v, all). one-reply read exact v all;
      change_always_refuses = λ amend faithful all. changes_so amend faithful (all two_rents 2 40000);
      withdraw_always_refuses = λ amend faithful all. withdraws_so amend faithful (all two_rents 1);
      touches-nothing = λ serve serves all. changed serve serves (all (first ∷ []) two_rents);
      fakes_the_rest = λ serve serves all. changed_again serve serves (all first (change_of 1 1 ∷ []) two_rents);
      made_up_counts = λ read exact f t e. let so = accepted_exact f t (read_so read exact f t e) in (so.0, so.1, so.2);
      copied_twice = λ serve serves (t, e, two). omega (arith, withdrawn serve serves t e);
      moved_up = moved;
      further_mixed = λ read exact. (refuses_so read exact _ (refusal 3 7 2) mixed_judged.0, refuses_so read exact _ (refusal 3 7 2) mixed_judged.1);
      written_early = (last_judged, λ writer untouched out. let (x, e) = last-refused (length out) in untouched last_wrong out x e);
      mixed-accepted = mixed-refused;
      made_up_kind = λ read exact f t e. (accepted_exact f t (read_so read exact f t e)).3;
      always_requests = λ read exact all. recalls_differ (sym (all two_recalls two_recall_totals (reads_so read exact two_recalls two_recall_totals flow.two_recalls_lem)));
      recall-total_elsewhere = recall-total;
      codes-mixed-accepted = λ read exact f mixed (t, e). not-mixed company_in f (company_of (records_of f)) (one-company f t (read_so read exact f t e)) mixed;
      blanks_passed = λ read exact. (refuses_so read exact _ _ flow.blanks_after_code, refuses_so read exact _ _ flow.code_after_blanks);
      blanks-refused = λ read exact. not-refused (reads_so read exact no_codes two_rent_totals flow.no_codes_lem);
      nothing-accepted = nothing-refused;
      cent_refused = λ read exact. not-refused (reads_so read exact one_cent_asked one_cent_totals flow.one_cent);
      zero-before-digits = λ read exact. refuses_so read exact _ _ flow.nothing_no_digits;
      changed_to_nothing = not_to_nothing;
      drops-all = λ compare right all. omega (arith, ap kept_lines (one-account compare right two_rents two_rents two_rent_totals two_rent_totals flow.two_rents_lem flow.two_rents_lem ∙ all two_rents two_rents), evening_facts.5, evening_facts.6);
      keeps-other = λ compare right. sym (one-account compare right (one_further further59) (one_further other_further) _ _ evening_facts.1 evening_facts.2) ∙ evening_facts.3;
      other_tie = λ compare right. sym (one-account compare right two_rents swapped_rents two_rent_totals two_rent_totals flow.two_rents_lem evening_facts.0) ∙ evening_facts.4;
      lowest_number = not_lowest;
    }

pub library_meets : LibraryMeets
library_meets =
    record {
      accepts_exactly = grammar_exact;
      refuses_first = first_fault_exact;
      refuses_untouched = λ list out x e. (write_leaves list out).1 x e;
      changes_faithfully = λ f k new x same. (change-refused f k new x).0 same;
      withdraws_faithfully = λ f k x same. (withdraw-refused f k x).0 same;
      serves = λ f t read calls. (demand3 f t read calls).0;
      compares_right = λ old new t u read read'. account_exact (List Item) are_same are_same_decides (requests_of old) (requests_of new);
    }
