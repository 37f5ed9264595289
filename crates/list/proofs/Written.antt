-- A list that is accepted encodes a flow that the reader accepts with the same numbers, and whose list is the list written. Assumes
-- nothing.
use Prim.Native.Nat.{ℕ, suc, ◌+◌, ◌*◌, ◌≤◌}
use mathlib.Core.Bool.{Bool, true, false, cond, true≢false}
use mathlib.Core.List.{List, [], ◌∷◌, ◌++◌, map-append, flatten, nil≢cons, head-eq_of_cons-eq}
use mathlib.Core.Logic.{◌⊎◌, inl, inr, ⊎_elim}
use mathlib.Core.Path.{◌≡◌, refl, sym, ◌∙◌, ap, subst}
use native.Mathlib.Omega.{arith}
use lib.Dec.{leb}
use lib.ListN.{length, take, length-append}
use lib.Seq.{take_at}
use borrow.Author.Tests.{leb-true}
use Rattle.sequences.specs.All.{All}
use Rattle.records.specs.Checks.{checks}
use Rattle.records.specs.Constants.{currency}
use Rattle.records.specs.Context.{header_of}
use Rattle.records.specs.Field.{◌to◌, field}
use Rattle.records.specs.RecordVerdict.{Hold}
use Rattle.records.specs.FlowKinds.{or_requests}
use Rattle.records.specs.Kinds.{heads, opened}
use Rattle.records.specs.Limits.{most_cents, most_records}
use Rattle.records.specs.declared.flow_kind.FlowKind.{FlowKind}
use Rattle.records.specs.declared.flow_kind.FlowKind.TheVariants.{Requests}
use Rattle.records.specs.declared.kind.RecordKind.{RecordKind}
use Rattle.records.specs.declared.kind.RecordKind.TheVariants.{Im, Ef}
use Rattle.flow.specs.Judge.{walk_totals, ended, judge}
use Rattle.flow.specs.Order.{permitted, may_close, place_due}
use Rattle.flow.specs.ExactTotals.{kind_of}
use Rattle.flow.specs.Records.{RightLength, records_of}
use Rattle.flow.specs.Walking.{start}
use Rattle.flow.specs.Verdict.{accepted, refused, refusal, of_call}
use Rattle.flow.specs.declared.answer.Totals.{Totals}
use Rattle.flow.specs.declared.order.Due.TheVariants.{OnlyIm}
use Rattle.flow.specs.declared.walk.Walk.{Walk}
use Rattle.flow.proofs.Accepted.{accepted-not-refused, accepted-same, accepted_exact}
use Rattle.flow.proofs.Reading.{one_at_most}
use Rattle.grammar.specs.Grammar.{Typed, records_in}
use Rattle.grammar.specs.Rules.{Printable}
use Rattle.grammar.proofs.AtPlace.{RightAt, asks}
use Rattle.grammar.proofs.ContextAfter.{FromStart}
use Rattle.grammar.proofs.FirstFault.{judge_from, judged, ends_so}
use Rattle.grammar.proofs.Order.{Allowed, header_only_first}
use Rattle.grammar.proofs.Rules.{header_rules}
use Rattle.grammar.proofs.Walked.{Walked, state_after, code_after, walked_append, walked_allowed, state_append}
use Rattle.list.specs.Encode.{carried_at, HeaderMeant, no_header, kind_meant, header_after, last_header, list_dispositions, list_cents, list_totals, encode_item, encode_from, records_for, trailer_for, encode}
use Rattle.list.specs.Items.{Item, record_kind, Proper, list_bytes, Parsed, items, faulty, parse, items_or, items_in, Listed}
use Rattle.list.specs.Laws.{Fitting, WrittenExact}
use Rattle.list.specs.ReadBack.{list_of, Canonical}
use Rattle.list.specs.Table.{carried, body_length}
use Rattle.list.specs.Write.{closed, judge_items, judge_parsed, judge_list}
use Rattle.list.specs.declared.table.ItemKind.{ItemKind}
use Rattle.list.specs.declared.table.ItemKind.TheVariants.{H}
use Rattle.list.proofs.Carried.{in_one}
use Rattle.list.proofs.OneRecord.{encoded-length, encoded_at}
use Rattle.list.proofs.AllRecords.{AllSuit, encode-records, encode-length, encode-items}
use Rattle.list.proofs.Judging.{front, RightItems, FaultyItems, view_items, typed_count, right_judged, faulty_judged, kinds_in, right-kinds, right-sums, close_said, header_stays, right-kind-meant}
use Rattle.list.proofs.ItemKinds.{heads_h, kind_stays}
use Rattle.list.proofs.ListItems.{items_exact}
use Rattle.list.proofs.Trailer.{Meant, Counted, trailer-right}

-- what was accepted after the items
pub closed_so : (w : Walk) (i : ℕ) {t : Totals} → closed w i ≡ accepted t → (may_close (permitted w.place.due) ≡ true) × (w.cents ≤ most_cents) × (walk_totals w (suc i) ≡ t)
closed_so w i {t} = by (may_close (permitted w.place.due)) (leb w.cents most_cents) refl refl
  where
    by :
        (a b : Bool) → may_close (permitted w.place.due) ≡ a → leb w.cents most_cents ≡ b
        → cond a (cond b (accepted (walk_totals w (suc i))) (refused (of_call 17))) (refused (refusal 3 (suc i) 2)) ≡ accepted t
        → (may_close (permitted w.place.due) ≡ true) × (w.cents ≤ most_cents) × (walk_totals w (suc i) ≡ t)
    by true true e f x = (e, leb-true w.cents most_cents f, accepted-same x)
    by true false e f x = absurd (accepted-not-refused x)
    by false b e f x = absurd (accepted-not-refused x)

-- no more dispositions than items
pub few-dispositions : (is : List Item) → list_dispositions is ≤ length is
unfolding list_dispositions
few-dispositions [] = omega arith
few-dispositions (it ∷ is) = omega (arith, one_at_most (record_kind it), few-dispositions is)

-- a list with a first item, whose records are right
module _ (it : Item) (others : List Item) (proper : All Proper (it ∷ others)) (r : RightItems (it ∷ others)) where
  abbrev all : List Item
  all = it ∷ others

  abbrev im : List ℕ
  im = encode_item (0 + opened (record_kind it)) no_header it

  abbrev after : Walk
  after = state_after start r.typed

  im_whole : length im ≡ 120
  im_whole = encoded-length (0 + opened (record_kind it)) no_header it proper.0

  first_of_front : take 120 (front all) ≡ im
  unfolding encode_from flatten
  first_of_front = take_at im _ 120 im_whole

  first_of-all : take 120 (encode all) ≡ im
  unfolding encode_from flatten
  first_of-all = take_at im _ 120 im_whole

  -- the first item is the only H or Q
  kinds : (record_kind it ≡ Im) × All (λ (k : RecordKind). heads k ≡ false) (kinds_in others)
  kinds = header_only_first (record_kind it) (kinds_in others) (subst (Allowed (place_due OnlyIm)) (sym (right-kinds all proper r)) (walked_allowed (header_of (take 120 (front all))) start [] 0 r.typed r.walked))

  pub header-meant : (last_header no_header all).body ≡ it.body
  unfolding last_header
  header-meant = ap (λ (h : HeaderMeant). h.body) (header_stays (header_after no_header it) others kinds.1) ∙ ap (λ (k : RecordKind). cond (heads k) it.body []) kinds.0

  -- it gives the kind, and all items suit it
  first_head : heads (record_kind it) ≡ true
  first_head = ap heads kinds.0

  pub kind-meant : (last_header no_header all).kind ≡ kind_meant Requests it.kind
  unfolding last_header
  kind-meant = ap (λ (h : HeaderMeant). h.kind) (header_stays (header_after no_header it) others kinds.1)

  pub all_suit : AllSuit (last_header no_header all).kind all
  all_suit =
      let q = (last_header no_header all).kind in
      let own : it.kind ≡ H q = heads_h Requests it.kind first_head ∙ ap (λ (p : FlowKind). H p) (sym kind-meant) in
      (ap (kind_meant q) own, rest others kinds.1)
    where
      rest : (is : List Item) → All (λ (k : RecordKind). heads k ≡ false) (kinds_in is) → AllSuit (last_header no_header all).kind is
      rest [] none = tt
      rest (x ∷ is) none = (kind_stays (last_header no_header all).kind x.kind none.0, rest is none.1)

  -- its record is a right header
  first_right : (rs : List Typed) → records_in rs ≡ records_for all → FromStart (front all) rs → All Printable im × (field 114 114 im ≡ currency)
  unfolding encode_from
  first_right [] same walked = absurd (nil≢cons same)
  first_right (t ∷ ts) same walked =
      let bytes : t.bytes ≡ im = head-eq_of_cons-eq same in
      let kind : t.kind ≡ Im = ⊎_elim (λ (e : t.kind ≡ Im). e) (λ (none : ⊥). absurd none) walked.0.may in
      let keeps : Hold (checks Im (asks (header_of (take 120 (front all))) start [] 1 Im) t.bytes) = subst (λ (k : RecordKind). Hold (checks k (asks (header_of (take 120 (front all))) start [] 1 k) t.bytes)) kind walked.0.keeps in
      (subst (All Printable) bytes walked.0.formed.printable, ap (field 114 114) (sym bytes) ∙ ((header_rules (asks (header_of (take 120 (front all))) start [] 1 Im) t.bytes).0 keeps).currency_code)

  meant : Meant im (last_header no_header all).body
  meant =
      let kind : it.kind ≡ H (kind_meant Requests it.kind) = heads_h Requests it.kind first_head in
      let first = first_right r.typed r.same r.walked in
      let carries : (a e : ℕ) → in_one (carried (H Requests)) a e ≡ true → field a e im ≡ carried_at (H Requests) (a to e) it.body = λ a e inside.
      encoded_at (0 + opened (record_kind it)) no_header it proper.0 a e (subst (λ (k : ItemKind). in_one (carried k) a e ≡ true) (sym kind) inside) ∙ ap (λ (k : ItemKind). carried_at k (a to e) it.body) kind in
      subst (Meant im) (sym header-meant) (record { sized = proper.0.sized ∙ ap body_length kind; carries = carries; printable = first.0; code = first.1 })

  -- with EF after them they are a flow
  pub encode-accepted : may_close (permitted after.place.due) ≡ true → suc (length all) ≤ most_records → list_cents all ≤ most_cents → judge (encode all) ≡ accepted (list_totals all)
  encode-accepted may few small =
      let tr = trailer_for all in
      let last : List Typed = record { kind = Ef; bytes = tr } ∷ [] in
      let rs = r.typed ++ last in
      let same : records_in rs ≡ records_for all ++ (tr ∷ []) = map-append (λ (x : Typed). x.bytes) r.typed last ∙ ap (λ (l : List (List ℕ)). l ++ (tr ∷ [])) r.same in
      let sums = right-sums all proper r in
      let kind = right-kind-meant it others proper r first_head kinds.1 may in
      let count : length r.typed ≡ length all = typed_count all r.typed r.same in
      let ended_at : suc (0 + length r.typed) ≡ suc (length all) = omega arith in
      let counted : Counted (list_totals all) = record { dispositions = omega (arith, few-dispositions all); cents = omega arith; records = omega arith } in
      let closing : RightAt (header_of im) after (code_after [] r.typed) (suc (0 + length r.typed)) Ef tr = trailer-right im (last_header no_header all).body meant (list_totals all) counted after (code_after [] r.typed) (suc (0 + length r.typed)) (close_said (permitted after.place.due) may) (λ i. record { kind = kind i; dispositions = sums.0 i; cents = sums.1 i; records = ended_at i }) in
      let front-walked : Walked (header_of im) start [] 0 r.typed = subst (λ (l : List ℕ). Walked (header_of l) start [] 0 r.typed) first_of_front r.walked in
      let walked : FromStart (encode all) rs = subst (λ (l : List ℕ). Walked (header_of l) start [] 0 rs) (sym first_of-all) ((walked_append (header_of im) start [] 0 r.typed last).1 (front-walked, (closing, tt))) in
      let size = encode-length all proper in
      let sized : RightLength (length (encode all)) = (omega arith, omega arith, omega arith) in
      let dispositions : after.dispositions + opened Ef ≡ list_dispositions all = omega (arith, sums.0) in
      let cents : after.cents + 0 ≡ list_cents all = omega (arith, sums.1) in
      let records : length rs ≡ suc (length all) = length-append r.typed last ∙ omega arith in
      judged (encode all) sized
      ∙ ap (judge_from (encode all)) (encode-records all proper ∙ sym same)
      ∙ ends_so ended (encode all) rs walked
      ∙ ap (λ (w : Walk). ended w (length rs)) (state_append start r.typed last)
      ∙ (λ i. accepted (record { kind = kind i; dispositions = dispositions i; cents = cents i; records = records i }))

-- a list of no items has none
none-closes : (r : RightItems []) → may_close (permitted (state_after start r.typed).place.due) ≡ true → ⊥
unfolding encode_from
none-closes r = by r.typed r.same
  where
    by : (rs : List Typed) → records_in rs ≡ [] → may_close (permitted (state_after start rs).place.due) ≡ true → ⊥
    by [] same t = true≢false (sym t)
    by (t ∷ ts) same u = nil≢cons (sym same)

-- of right items after which EF may follow: the kind is the one meant, and all suit it
pub kind-told : (is : List Item) (proper : All Proper is) (r : RightItems is) → may_close (permitted (state_after start r.typed).place.due) ≡ true → or_requests (state_after start r.typed).kind ≡ (last_header no_header is).kind
kind-told [] proper r may = absurd (none-closes r may)
kind-told (it ∷ is) proper r may = right-kind-meant it is proper r (first_head it is proper r) (kinds it is proper r).1 may

suit_so : (is : List Item) (proper : All Proper is) (r : RightItems is) → may_close (permitted (state_after start r.typed).place.due) ≡ true → AllSuit (last_header no_header is).kind is
suit_so [] proper r may = tt
suit_so (it ∷ is) proper r may = all_suit it is proper r

accepted_encoding :
    (is : List Item) (proper : All Proper is) (r : RightItems is) → may_close (permitted (state_after start r.typed).place.due) ≡ true → suc (length is) ≤ most_records → list_cents is ≤ most_cents
    → judge (encode is) ≡ accepted (list_totals is)
accepted_encoding [] proper r may few small = absurd (none-closes r may)
accepted_encoding (it ∷ is) proper r may few small = encode-accepted it is proper r may few small

-- what was accepted of a list
pub record AcceptedList (list : List ℕ) (room : ℕ) (t : Totals) : Type 0 where
  pub these : List Item
  pub fits : Fitting list room these
  pub judged_so : judge_items these ≡ accepted t

pub accepted_list : (list : List ℕ) (room : ℕ) (t : Totals) → judge_list list room ≡ accepted t → AcceptedList list room t
unfolding judge_list
accepted_list list room t e = by (parse list) refl e
  where
    sizes : (is : List Item) (a b : Bool) → parse list ≡ items is → leb (suc (length is)) most_records ≡ a → leb (120 * suc (length is)) room ≡ b → cond a (cond b (judge_items is) (refused (of_call 21))) (refused (of_call 1)) ≡ accepted t → AcceptedList list room t
    sizes is true true said few roomy e = record { these = is; fits = record { said = said; few = leb-true (suc (length is)) most_records few; roomy = leb-true (120 * suc (length is)) room roomy }; judged_so = e }
    sizes is true false said few roomy e = absurd (accepted-not-refused e)
    sizes is false b said few roomy e = absurd (accepted-not-refused e)

    by : (p : Parsed) → parse list ≡ p → judge_parsed p room ≡ accepted t → AcceptedList list room t
    by (items is) said e = sizes is (leb (suc (length is)) most_records) (leb (120 * suc (length is)) room) said refl refl e
    by (faulty m) said e = absurd (accepted-not-refused e)

-- what was accepted of items: each record is right, and the answer is their exact sums
pub record AcceptedItems (is : List Item) (t : Totals) : Type 0 where
  pub right : RightItems is
  pub may : may_close (permitted (state_after start right.typed).place.due) ≡ true
  pub small : list_cents is ≤ most_cents
  pub told : list_totals is ≡ t

pub accepted-items : (is : List Item) → All Proper is → (t : Totals) → judge_items is ≡ accepted t → AcceptedItems is t
accepted-items is proper t e = by (view_items is proper)
  where
    by : RightItems is ⊎ FaultyItems is → AcceptedItems is t
    by (inl r) =
        let so = closed_so (state_after start r.typed) (length is) (sym (right_judged is proper r) ∙ e) in
        let sums = right-sums is proper r in
        let kind = kind-told is proper r so.0 in
        record { right = r; may = so.0; small = omega (arith, sums.1, so.1); told = (λ i. record { kind = sym kind i; dispositions = sym sums.0 i; cents = sym sums.1 i; records = suc (length is) }) ∙ so.2 }
    by (inr f) = absurd (accepted-not-refused (sym (faulty_judged is proper f) ∙ e))

pub written_exact : WrittenExact
written_exact list room t e =
    let a = accepted_list list room t e in
    let is = a.these in
    let exact = (items_exact list is).0 a.fits.said in
    let proper = exact.1 in
    let so = accepted-items is proper t a.judged_so in
    let few = a.fits.few in
    let roomy = a.fits.roomy in
    let records = ap (λ (u : Totals). u.records) so.told in
    let size = encode-length is proper in
    let same : items_in list ≡ is = ap items_or a.fits.said in
    let read = accepted_encoding is proper so.right so.may few so.small in
    let suit : AllSuit (kind_of (records_of (encode is))) is = subst (λ (q : FlowKind). AllSuit q is) (accepted_exact (encode is) (list_totals is) read).3 (suit_so is proper so.right so.may) in
    subst (λ (l : List Item). (judge (encode l) ≡ accepted t) × (list_of (encode l) ≡ list) × Canonical (encode l) × (length (encode l) ≡ 120 * t.records) × (length (encode l) ≤ room)) (sym same) (
      read ∙ ap accepted so.told,
      ap list_bytes (encode-items is proper suit) ∙ exact.0,
      ap encode (encode-items is proper suit),
      omega arith,
      omega arith,
    )

-- what writing an accepted list goes by: it has items, the output has room for their records, and the totals are theirs
pub record Writable (list : List ℕ) (room : ℕ) (t : Totals) : Type 0 where
  pub listed : Listed list
  pub roomy : 120 * suc (length (items_in list)) ≤ room
  pub totals : t ≡ list_totals (items_in list)
  pub size : 120 * t.records ≡ length (encode (items_in list))

pub writable : (list : List ℕ) (room : ℕ) (t : Totals) → judge_list list room ≡ accepted t → Writable list room t
writable list room t e =
    let a = accepted_list list room t e in
    let fits = subst (Fitting list room) (sym (ap items_or a.fits.said)) a.fits in
    let judged : judge_items (items_in list) ≡ accepted t = ap judge_items (ap items_or a.fits.said) ∙ a.judged_so in
    let so = accepted-items (items_in list) ((items_exact list (items_in list)).0 fits.said).1 t judged in
    record { listed = record { said = fits.said; few = fits.few }; roomy = fits.roomy; totals = sym so.told; size = sym (written_exact list room t e).3 }
