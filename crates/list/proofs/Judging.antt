-- The records that items encode, judged as the reader judges them: all are right, or one is the first that is not. Assumes nothing.
use Prim.Native.Nat.{ℕ, suc, ◌+◌}
use mathlib.Core.Bool.{Bool, true, false, cond, ◌||◌, true≢false}
use mathlib.Core.List.{List, [], ◌∷◌, ◌++◌, map, flatten}
use mathlib.Core.Logic.{◌⊎◌, inl, inr}
use mathlib.Core.Path.{◌≡◌, refl, sym, ◌∙◌, ap, ap₂, subst}
use native.Mathlib.Omega.{arith}
use lib.ListN.{length, take, length-map}
use Rattle.sequences.specs.All.{All}
use Rattle.sequences.proofs.All.{all_at}
use Rattle.fields.specs.Digits.{number}
use Rattle.records.specs.Amount.{amount_span, amount_in}
use Rattle.records.specs.Field.{first_of, last_of}
use Rattle.records.specs.Context.{header_of}
use Rattle.records.specs.FlowKinds.{kind_in, is_known, or_requests, first_known}
use Rattle.records.specs.Kinds.{heads, opens, opened, closes, is_opening}
use Rattle.records.specs.declared.flow_kind.FlowKind.{FlowKind}
use Rattle.records.specs.declared.kind.RecordKind.{RecordKind}
use Rattle.records.specs.declared.kind.RecordKind.TheVariants.{Ef}
use Rattle.records.proofs.ByKind.{type_tested, opens-type}
use Rattle.records.proofs.EachKind.{heads_im, closes_ef}
use Rattle.records.proofs.FlowKinds.{kind-told}
use Rattle.flow.specs.Judge.{walk_from}
use Rattle.flow.specs.Order.{In, permitted, may_close}
use Rattle.flow.specs.Walking.{start}
use Rattle.flow.specs.ExactTotals.{opening_count, amount_sum, kind_from}
use Rattle.flow.specs.Verdict.{refused, refusal}
use Rattle.flow.proofs.Cut.{Whole}
use Rattle.grammar.specs.Fault.{HaveKinds}
use Rattle.grammar.specs.Grammar.{Typed, kinds_of, records_in}
use Rattle.grammar.proofs.ContextAfter.{FromStart, FaultNext, formed_so, same-kinds}
use Rattle.grammar.proofs.FirstFault.{ends_so, stops_so}
use Rattle.grammar.proofs.KindKnown.{kind_at_close}
use Rattle.grammar.proofs.Walked.{state_after, state_counts, Outcome, all_right, stops, outcome}
use Rattle.list.specs.Encode.{carried_at, HeaderMeant, no_header, body_meant, header_after, last_header, amount_carried, list_dispositions, item_amount, list_cents, encode_item, encode_from, records_for}
use Rattle.list.specs.Items.{Item, record_kind, is_d, Proper}
use Rattle.list.specs.Table.{carried}
use Rattle.list.specs.Write.{closed, judge_items}
use Rattle.list.specs.declared.table.ItemKind.{ItemKind}
use Rattle.list.proofs.Carried.{in_one}
use Rattle.list.proofs.ItemKinds.{opens_d, kind_stays}
use Rattle.list.proofs.OneRecord.{encoded-type, encoded_at, encoded-causale}
use Rattle.list.proofs.AllRecords.{encoded-whole, encoded-count}
use Rattle.std.specs.Prelude.{Option, Some, None}

-- the records together
abbrev pub front : List Item → List ℕ
front is = flatten (records_for is)

-- each record is right at its place
pub record RightItems (is : List Item) : Type 0 where
  pub typed : List Typed
  pub same : records_in typed ≡ records_for is
  pub walked : FromStart (front is) typed

-- a record has a fault, and those before it are right
pub record FaultyItems (is : List Item) : Type 0 where
  pub typed : List Typed
  pub rec : List ℕ
  pub rest : List (List ℕ)
  pub number : ℕ
  pub position : ℕ
  pub same : records_for is ≡ records_in typed ++ (rec ∷ rest)
  pub walked : FromStart (front is) typed
  pub whole : length rec ≡ 120
  pub fault : FaultNext (front is) typed rec number position

pub typed_count : (is : List Item) (rs : List Typed) → records_in rs ≡ records_for is → length rs ≡ length is
typed_count is rs same = sym (length-map rs (λ (r : Typed). r.bytes)) ∙ ap (λ (l : List (List ℕ)). length l) same ∙ encoded-count 0 no_header is

module _ (is : List Item) (proper : All Proper is) where
  pub view_items : RightItems is ⊎ FaultyItems is
  view_items = by refl (encoded-whole 0 no_header is proper) (outcome (header_of (take 120 (front is))) start [] 0 (records_for is) (encoded-whole 0 no_header is proper))
    where
      by : {recs : List (List ℕ)} → records_for is ≡ recs → Whole recs → Outcome (header_of (take 120 (front is))) start [] 0 recs → RightItems is ⊎ FaultyItems is
      by same whole (all_right rs walked) = inl (record { typed = rs; same = sym same; walked = walked })
      by same whole (stops rs rec rest m p walked fault) =
          inr (record { typed = rs; rec = rec; rest = rest; number = m; position = p; same = same; walked = walked; whole = all_at (λ (l : List ℕ). length l ≡ 120) (records_in rs) rec rest whole; fault = fault })

  -- what is answered then
  pub right_judged : (r : RightItems is) → judge_items is ≡ closed (state_after start r.typed) (length is)
  unfolding judge_items
  right_judged r = ap (λ (recs : List (List ℕ)). walk_from closed (header_of (take 120 (front is))) start [] 0 recs) (sym r.same) ∙ ends_so closed (front is) r.typed r.walked ∙ ap (closed (state_after start r.typed)) (typed_count is r.typed r.same)

  pub faulty_judged : (r : FaultyItems is) → judge_items is ≡ refused (refusal r.number (suc (length (records_in r.typed))) r.position)
  unfolding judge_items
  faulty_judged r = ap (λ (recs : List (List ℕ)). walk_from closed (header_of (take 120 (front is))) start [] 0 recs) r.same ∙ stops_so closed (front is) r.typed r.walked r.rec r.rest r.number r.position r.whole r.fault

-- the kinds of the records are those that the items' kinds have in the table
abbrev pub kinds_in : List Item → List RecordKind
kinds_in is = map record_kind is

kinds_had : (n : ℕ) (header : HeaderMeant) (is : List Item) → All Proper is → HaveKinds (kinds_in is) (encode_from n header is)
unfolding encode_from
kinds_had n header [] proper = refl
kinds_had n header (it ∷ is) proper =
    ap₂ ◌∷◌ (sym (encoded-type _ header it proper.0)) (kinds_had (n + opened (record_kind it)) (header_after header it) is proper.1)

pub right-kinds : (is : List Item) → All Proper is → (r : RightItems is) → kinds_in is ≡ kinds_of r.typed
right-kinds is proper r = same-kinds (front is) r.typed r.walked (kinds_in is) (subst (HaveKinds (kinds_in is)) (sym r.same) (kinds_had 0 no_header is proper))

-- their sums are those of the items
pub encoded-amount : (n : ℕ) (header : HeaderMeant) (it : Item) → Proper it → cond (is_d it) (number (amount_in (encode_item n header it))) 0 ≡ item_amount it
encoded-amount n header it proper = by (is_d it) refl
  where
    by : (b : Bool) → is_d it ≡ b → cond b (number (amount_in (encode_item n header it))) 0 ≡ cond b (number (amount_carried it.body)) 0
    by true e =
        let kind = opens_d it.kind e in
        let inside : in_one (carried it.kind) (first_of amount_span) (last_of amount_span) ≡ true = rw kind refl in
        let stands : carried_at it.kind amount_span it.body ≡ amount_carried it.body = ap (λ (k : ItemKind). carried_at k amount_span it.body) kind in
        ap number (encoded_at n header it proper (first_of amount_span) (last_of amount_span) inside ∙ stands)
    by false e = refl

pub encoded-opens : (n : ℕ) (header : HeaderMeant) (it : Item) → Proper it → is_opening (encode_item n header it) ≡ is_d it
encoded-opens n header it proper =
    sym (opens-type (record_kind it) (encode_item n header it) (type_tested (record_kind it) (encode_item n header it) (encoded-type n header it proper)))

sums-encoded :
    (n : ℕ) (header : HeaderMeant) (is : List Item) → All Proper is
    → (opening_count (encode_from n header is) ≡ list_dispositions is) × (amount_sum (encode_from n header is) ≡ list_cents is)
unfolding encode_from opening_count amount_sum list_dispositions list_cents
sums-encoded n header [] proper = (refl, refl)
sums-encoded n header (it ∷ is) proper =
    let rest = sums-encoded (n + opened (record_kind it)) (header_after header it) is proper.1 in
    (rw (encoded-opens _ header it proper.0, rest.0), rw (encoded-opens _ header it proper.0, encoded-amount _ header it proper.0, rest.1))

pub right-sums : (is : List Item) → All Proper is → (r : RightItems is) → ((state_after start r.typed).dispositions ≡ list_dispositions is) × ((state_after start r.typed).cents ≡ list_cents is)
right-sums is proper r =
    let counts = state_counts start [] r.typed (formed_so (front is) r.typed r.walked) in
    let sums = sums-encoded 0 no_header is proper in
    let count : opening_count (records_in r.typed) ≡ list_dispositions is = ap opening_count r.same ∙ sums.0 in
    let cents : amount_sum (records_in r.typed) ≡ list_cents is = ap amount_sum r.same ∙ sums.1 in
    (omega arith, omega arith)

-- EF may follow, as the test says it and as the place does
pub close_said : (ks : List RecordKind) → may_close ks ≡ true → In Ef ks
close_said [] t = absurd (true≢false (sym t))
close_said (k ∷ ks) t = by (closes k) refl t (close_said ks)
  where
    by : (b : Bool) → closes k ≡ b → (b || may_close ks) ≡ true → (may_close ks ≡ true → In Ef ks) → In Ef (k ∷ ks)
    by true e t rest = inl (sym (closes_ef k e))
    by false e t rest = inr (rest t)

pub close_tested : (ks : List RecordKind) → In Ef ks → may_close ks ≡ true
close_tested [] h = absurd h
close_tested (k ∷ ks) (inl e) = rw (sym e)
close_tested (k ∷ ks) (inr h) = by (closes k) (close_tested ks h)
  where
    by : (b : Bool) → may_close ks ≡ true → (b || may_close ks) ≡ true
    by true t = refl
    by false t = t

-- after an item of no header the header meant stays
pub header_stays_one : (header : HeaderMeant) (it : Item) → heads (record_kind it) ≡ false → header_after header it ≡ header
header_stays_one header it none =
    let kind = kind_stays header.kind it.kind none in
    let body : body_meant header.body it ≡ header.body = ap (λ (b : Bool). cond b it.body header.body) none in
    λ i. record { kind = kind i; body = body i }

pub header_stays : (header : HeaderMeant) (is : List Item) → All (λ (k : RecordKind). heads k ≡ false) (kinds_in is) → last_header header is ≡ header
unfolding last_header
header_stays header [] none = refl
header_stays header (it ∷ is) none = ap (λ (h : HeaderMeant). last_header h is) (header_stays_one header it none.0) ∙ header_stays header is none.1

-- the kind found so far is none, or the one that is meant
abbrev pub MayMean : Option FlowKind → FlowKind → Type 0
MayMean x q = first_known x (Some q) ≡ Some q

pub meant-known : (x : Option FlowKind) (q : FlowKind) → is_known x ≡ true → MayMean x q → x ≡ Some q
meant-known (Some p) q known e = e
meant-known None q known e = absurd (true≢false (sym known))

-- a record that is encoded leaves it so
pub mean_on : (n : ℕ) (header : HeaderMeant) (it : Item) → Proper it → (x : Option FlowKind) → MayMean x header.kind → let rec = encode_item n header it in MayMean (cond (is_opening rec) (first_known x (kind_in rec)) x) header.kind
mean_on n header it proper x e = by (is_d it) refl
  where
    rec : List ℕ
    rec = encode_item n header it

    by : (b : Bool) → is_d it ≡ b → MayMean (cond (is_opening rec) (first_known x (kind_in rec)) x) header.kind
    by true t =
        let told : kind_in rec ≡ Some header.kind = (kind-told rec header.kind).1 (encoded-causale n header it proper (opens_d it.kind t)) in
        rw (encoded-opens n header it proper ∙ t, told, e)
    by false t = rw (encoded-opens n header it proper ∙ t) e

-- and so do records under one header
kinds-encoded : (n : ℕ) (header : HeaderMeant) (is : List Item) → All Proper is → All (λ (k : RecordKind). heads k ≡ false) (kinds_in is) → (x : Option FlowKind) → MayMean x header.kind → MayMean (kind_from x (encode_from n header is)) header.kind
unfolding encode_from kind_from
kinds-encoded n header [] proper none x e = e
kinds-encoded n header (it ∷ is) proper none x e =
    let m = n + opened (record_kind it) in
    let rec = encode_item m header it in
    let same : header_after header it ≡ header = header_stays_one header it none.0 in
    let on = kinds-encoded m header is proper.1 none.1 (cond (is_opening rec) (first_known x (kind_in rec)) x) (mean_on m header it proper.0 x e) in
    subst (λ (h : HeaderMeant). MayMean (kind_from (cond (is_opening rec) (first_known x (kind_in rec)) x) (encode_from m h is)) header.kind) (sym same) on

-- so where EF may follow right records of one header, their kind is the one that it means
pub right-kind-meant :
    (it : Item) (others : List Item) → All Proper (it ∷ others) → (r : RightItems (it ∷ others)) → heads (record_kind it) ≡ true → All (λ (k : RecordKind). heads k ≡ false) (kinds_in others)
    → may_close (permitted (state_after start r.typed).place.due) ≡ true → or_requests (state_after start r.typed).kind ≡ (last_header no_header (it ∷ others)).kind
unfolding encode_from kind_from last_header
right-kind-meant it others proper r first none may =
    let all = it ∷ others in
    let header = header_after no_header it in
    let m = 0 + opened (record_kind it) in
    let rec = encode_item m no_header it in
    let state : (state_after start r.typed).kind ≡ kind_from None (records_for all) = (state_counts start [] r.typed (formed_so (front all) r.typed r.walked)).3 ∙ ap (kind_from None) r.same in
    let shut : is_opening rec ≡ false = encoded-opens m no_header it proper.0 ∙ ap opens (heads_im (record_kind it) first) in
    let rest : kind_from None (records_for all) ≡ kind_from None (encode_from m header others) = ap (λ (b : Bool). kind_from (cond b (first_known None (kind_in rec)) None) (encode_from m header others)) shut in
    let mean = kinds-encoded m header others proper.1 none None refl in
    let known : is_known (kind_from None (encode_from m header others)) ≡ true = ap is_known (sym (state ∙ rest)) ∙ kind_at_close (header_of (take 120 (front all))) [] 0 r.typed r.walked may in
    ap or_requests (state ∙ rest ∙ meant-known _ header.kind known mean) ∙ ap (λ (h : HeaderMeant). h.kind) (sym (header_stays header others none))
