-- The two loops over a list: one judges the record of each item, the other stores it. After each item, what is left decides as the whole
-- does. Assumes nothing.
use Prim.Native.Nat.{ℕ, suc, ◌+◌, ◌*◌, ◌≤◌, min}
use mathlib.Core.Bool.{Bool, true, false, cond, ◌&&◌}
use mathlib.Core.List.{List, [], ◌∷◌, ◌++◌, append-nil, flatten}
use mathlib.Core.Path.{◌≡◌, refl, sym, ◌∙◌, ap, subst}
use native.Mathlib.Omega.{arith}
use lib.Dec.{leb}
use lib.ListN.{length, take, length-append}
use lib.Seq.{take_at}
use borrow.Author.Tests.{leb-true, leb-false, lt-leb}
use Rattle.sequences.specs.All.{All}
use Rattle.sequences.specs.Part.{put}
use Rattle.sequences.proofs.All.{all_append}
use Rattle.sequences.proofs.Part.{put-append, put-length}
use Rattle.records.specs.Company.{company_span, company_in, is_none}
use Rattle.records.specs.Context.{Header}
use Rattle.records.specs.RecordVerdict.{right}
use Rattle.records.specs.RecordVerdict.{refused as RecordVerdict-refused}
use Rattle.records.specs.Kinds.{opened}
use Rattle.records.specs.Limits.{count_limit, cents_limit, most_cents, most_records}
use Rattle.records.specs.declared.flow_kind.FlowKind.{FlowKind}
use Rattle.records.specs.declared.kind.RecordKind.{RecordKind}
use Rattle.records.proofs.ByKind.{types_differ, type-said}
use Rattle.flow.specs.Judge.{walk_from}
use Rattle.flow.specs.Walking.{start, step, first_company, company_after, judge_record, saturated}
use Rattle.flow.specs.Verdict.{refused, refusal}
use Rattle.flow.specs.declared.walk.Walk.{Walk}
use Rattle.flow.proofs.Cut.{Whole, flatten-length}
use Rattle.flow.proofs.Exact.{right_typed}
use Rattle.flow.proofs.Reading.{Reading, one_at_most, go_on, refuse, finish}
use Rattle.list.specs.Encode.{carried_at, HeaderMeant, header_meant, no_header, header_after, last_header, list_totals, encode_item, encode_from, records_for, trailer_for, encode}
use Rattle.list.specs.Items.{Item, item, record_kind, is_d, Proper, items, items_from, items_in, Listed, FirstItem, NoFirst}
use Rattle.list.specs.Table.{record_of, carried, body_length}
use Rattle.list.specs.Write.{closed, judge_items}
use Rattle.list.specs.declared.table.ItemKind.{ItemKind}
use Rattle.list.specs.declared.table.ItemKind.TheVariants.{D}
use Rattle.list.proofs.Carried.{in_one}
use Rattle.list.proofs.ItemKinds.{opens_d}
use Rattle.list.proofs.OneRecord.{encoded-length, encoded-type, encoded_at}
use Rattle.list.proofs.AllRecords.{trailer-length, encoded-whole, encoded-count}
use Rattle.list.proofs.ListItems.{items_exact}
use Rattle.list.proofs.Parsing.{Next, next_item, no_more}

-- a record that is found right is of the item's kind, and its company code is the body's
module _ (number : ℕ) (header : HeaderMeant) (it : Item) (proper : Proper it) where
  pub right-kind : (h : Header) (w : Walk) (company : List ℕ) (n : ℕ) (k : RecordKind) (c : ℕ) → judge_record h w company n (encode_item number header it) ≡ right k c → k ≡ record_kind it
  right-kind h w company n k c e =
      types_differ k (record_kind it) (sym (type-said k (encode_item number header it) (right_typed h w company n (encode_item number header it) k c e).0) ∙ encoded-type number header it proper)

  pub company-carried : (company : List ℕ) → company_after company (record_kind it) (encode_item number header it) ≡ first_company company (record_kind it) (carried_at D company_span it.body)
  company-carried company = by (is_d it) refl
    where
      by :
          (b : Bool) → is_d it ≡ b
          → cond (b && is_none company) (company_in (encode_item number header it)) company ≡ cond (b && is_none company) (carried_at D company_span it.body) company
      by true e =
          let kind = opens_d it.kind e in
          let inside : in_one (carried it.kind) 92 96 ≡ true = rw kind refl in
          let code : company_in (encode_item number header it) ≡ carried_at D company_span it.body = encoded_at number header it proper 92 96 inside ∙ ap (λ (k : ItemKind). carried_at k company_span it.body) kind in
          rw code
      by false e = refl

-- after n right records, with the rest of the list to come
pub record JudgingAt (h : Header) (list rest : List ℕ) (n dispositions : ℕ) (header : HeaderMeant) (w : Walk) (company : List ℕ) : Type 0 where
  pub left : List Item
  pub said : items_from n 0 rest ≡ items left
  pub count : n + length left ≡ length (items_in list)
  pub few : dispositions ≤ n
  pub reading : Reading closed h (records_for (items_in list)) w company n (encode_from dispositions header left)

-- bytes that begin with no item, where they are items, are none
pub none_judged : (list : List ℕ) → Listed list → NoFirst list → judge_items (items_in list) ≡ closed start 0
unfolding judge_items encode_from walk_from
none_judged list listed none = rw (no_more list none 0 (items_in list) listed.said)

-- the record that is built is the item's
pub built_so : {rec : List ℕ} {n m : ℕ} {p q : FlowKind} (header : List ℕ) (it : Item) → rec ≡ encode_item n (header_meant p header) it → n ≡ m → p ≡ q → rec ≡ encode_item m (header_meant q header) it
built_so header it built number kind = built ∙ (λ i. encode_item (number i) (header_meant (kind i) header) it)

-- what a turn of a loop has read: the item, and what it is of those that are left
module _ {rest : List ℕ} {k : ItemKind} {body after : List ℕ} (first : FirstItem rest k body after) (sized : length body ≡ body_length k) where
  abbrev it : Item
  it = item k body

  proper : Proper it
  proper = record { sized = sized }

  -- the next record and those after it
  records_next : (n number : ℕ) (header : HeaderMeant) (is : List Item) (next : Next n k body after is) → encode_from number header is ≡ encode_item (number + opened (record_of k)) header it ∷ encode_from (number + opened (record_of k)) (header_after header it) next.others
  unfolding encode_from
  records_next n number header is next = ap (encode_from number header) next.whole

  -- the first record of all is the first 120 bytes
  pub first_record : Listed rest → take 120 (flatten (records_for (items_in rest))) ≡ encode_item (0 + opened (record_of k)) no_header it
  unfolding flatten
  first_record listed =
      ap (λ (recs : List (List ℕ)). take 120 (flatten recs)) (records_next 0 0 no_header (items_in rest) (next_item first 0 (items_in rest) listed.said))
      ∙ take_at (encode_item (0 + opened (record_of k)) no_header it) _ 120 (encoded-length (0 + opened (record_of k)) no_header it proper)

  module _ {h : Header} {list : List ℕ} {n number : ℕ} {header : HeaderMeant} {w : Walk} {company : List ℕ} (j : JudgingAt h list rest n number header w company) where
    abbrev next_judged : Next n k body after j.left
    next_judged = next_item first n j.left j.said

    pub judging_on :
        (l : RecordKind) (c : ℕ) → judge_record h w company (suc n) (encode_item (number + opened (record_of k)) header it) ≡ right l c
        → JudgingAt h list after (suc n) (number + opened (record_of k)) (header_after header it) (saturated (step w l c (encode_item (number + opened (record_of k)) header it))) (first_company company (record_of k) (carried_at D company_span body))
    judging_on l c e =
        let next = next_judged in
        let number' = number + opened (record_of k) in
        let rec = encode_item number' header it in
        let kind : l ≡ record_of k = right-kind number' header it proper h w company (suc n) l c e in
        let code : company_after company l rec ≡ first_company company (record_of k) (carried_at D company_span body) = ap (λ (m : RecordKind). company_after company m rec) kind ∙ company-carried number' header it proper company in
        let read = go_on j.reading rec (encode_from number' (header_after header it) next.others) (records_next n number header j.left next) l c e in
        let more : length j.left ≡ suc (length next.others) = ap (λ (l : List Item). length l) next.whole in
        record {
          left = next.others;
          said = next.left;
          count = omega (arith, j.count);
          few = omega (arith, j.few, one_at_most (record_of k));
          reading = subst (λ (m : List ℕ). Reading closed h (records_for (items_in list)) (saturated (step w l c rec)) m (suc n) (encode_from number' (header_after header it) next.others)) code read;
        }

    pub judging_refused :
        (m p : ℕ) → judge_record h w company (suc n) (encode_item (number + opened (record_of k)) header it) ≡ RecordVerdict-refused m p
        → refused (refusal m (suc n) p) ≡ walk_from closed h start [] 0 (records_for (items_in list))
    judging_refused m p e = refuse j.reading _ (encode_from (number + opened (record_of k)) (header_after header it) next_judged.others) (records_next n number header j.left next_judged) m p e

-- the answer after the last item does not tell the stopped state from the exact one
pub closed_alike : (w : Walk) (n : ℕ) → suc w.dispositions ≤ most_records → closed (saturated w) n ≡ closed w n
closed_alike w n few = by (leb w.cents most_cents) refl
  where
    dispositions : min w.dispositions count_limit ≡ w.dispositions
    dispositions = omega arith

    by : (b : Bool) → leb w.cents most_cents ≡ b → closed (saturated w) n ≡ closed w n
    by true t =
        let small = leb-true w.cents most_cents t in
        let cents : min w.cents cents_limit ≡ w.cents = omega arith in
        rw (dispositions, cents)
    by false t =
        let large = leb-false w.cents most_cents t in
        let over : leb (min w.cents cents_limit) most_cents ≡ false = lt-leb (min w.cents cents_limit) most_cents (omega arith) in
        rw (over, t)

pub judging_ends : {h : Header} {list rest : List ℕ} {n number : ℕ} {header : HeaderMeant} {w : Walk} {company : List ℕ} (j : JudgingAt h list rest n number header w company) → suc (length (items_in list)) ≤ most_records → NoFirst rest → closed w n ≡ walk_from closed h start [] 0 (records_for (items_in list))
unfolding encode_from
judging_ends {rest = rest} {n = n} {number = number} {header = header} j few past =
    let none : j.left ≡ [] = no_more rest past n j.left j.said in
    finish j.reading (ap (encode_from number header) none) (closed_alike j.reading.exact n (omega (arith, j.reading.few, j.count)))

-- after n records stored, with the rest of the list to come: what is left to store makes `all` of the output
pub record StoringAt (list all rest : List ℕ) (n dispositions : ℕ) (header : HeaderMeant) (out : List ℕ) : Type 0 where
  pub left : List Item
  pub said : items_from n 0 rest ≡ items left
  pub proper : All Proper left
  pub count : n + length left ≡ length (items_in list)
  pub few : dispositions ≤ n
  pub header-last : last_header header left ≡ last_header no_header (items_in list)
  pub room : 120 * suc (length (items_in list)) ≤ length out
  pub rest-stored : put (120 * n) (flatten (encode_from dispositions header left ++ (trailer_for (items_in list) ∷ []))) out ≡ all

pub storing_begins : (list out : List ℕ) → Listed list → 120 * suc (length (items_in list)) ≤ length out → StoringAt list (put 0 (encode (items_in list)) out) list 0 0 no_header out
storing_begins list out listed room =
    record { left = items_in list; said = listed.said; proper = ((items_exact list (items_in list)).0 listed.said).1; count = omega arith; few = omega arith; header-last = refl; room = room; rest-stored = refl }

module _ {list all rest : List ℕ} {n number : ℕ} {header : HeaderMeant} {out : List ℕ} (s : StoringAt list all rest n number header out) where
  module _ {k : ItemKind} {body after : List ℕ} (first : FirstItem rest k body after) (sized : length body ≡ body_length k) where
    abbrev next_stored : Next n k body after s.left
    next_stored = next_item first n s.left s.said

    -- the output has room for a record more
    pub storing_fits : 120 * n + length (encode_item (number + opened (record_of k)) header (item k body)) ≤ length out
    storing_fits =
        let more : length s.left ≡ suc (length next_stored.others) = ap (λ (l : List Item). length l) next_stored.whole in
        omega (arith, s.count, s.room, encoded-length (number + opened (record_of k)) header (item k body) (record { sized = sized }))

    pub storing_on :
        StoringAt list all after (suc n) (number + opened (record_of k)) (header_after header (item k body)) (put (120 * n) (encode_item (number + opened (record_of k)) header (item k body)) out)
    unfolding flatten last_header
    storing_on =
        let next = next_stored in
        let number' = number + opened (record_of k) in
        let rec = encode_item number' header (item k body) in
        let records = encode_from number' (header_after header (item k body)) next.others in
        let later = records ++ (trailer_for (items_in list) ∷ []) in
        let is : All Proper (item k body ∷ next.others) = subst (All Proper) next.whole s.proper in
        let more : length s.left ≡ suc (length next.others) = ap (λ (l : List Item). length l) next.whole in
        let count = s.count in
        let room = s.room in
        let size : length rec ≡ 120 = encoded-length number' header (item k body) is.0 in
        let whole : Whole later = all_append (λ (r : List ℕ). length r ≡ 120) records (trailer_for (items_in list) ∷ []) (encoded-whole number' (header_after header (item k body)) next.others is.1) (trailer-length (last_header no_header (items_in list)).body (list_totals (items_in list)), tt) in
        let counted : length later ≡ suc (length next.others) = length-append records (trailer_for (items_in list) ∷ []) ∙ omega (arith, encoded-count number' (header_after header (item k body)) next.others) in
        let bytes : length (flatten later) ≡ 120 * length later = flatten-length later whole in
        let fits : 120 * n + length rec + length (flatten later) ≤ length out = omega arith in
        let on : 120 * n + length rec ≡ 120 * suc n = omega arith in
        let joined : encode_from number header s.left ++ (trailer_for (items_in list) ∷ []) ≡ rec ∷ later = ap (λ (l : List (List ℕ)). l ++ (trailer_for (items_in list) ∷ [])) (records_next first sized n number header s.left next) in
        record {
          left = next.others;
          said = next.left;
          proper = is.1;
          count = omega arith;
          few = omega (arith, s.few, one_at_most (record_of k));
          header-last = ap (last_header header) (sym next.whole) ∙ s.header-last;
          room = subst (λ (m : ℕ). 120 * suc (length (items_in list)) ≤ m) (sym (put-length (120 * n) rec out (omega arith))) room;
          rest-stored = ap (λ (m : ℕ). put m (flatten later) (put (120 * n) rec out)) (sym on) ∙ sym (put-append (120 * n) rec (flatten later) out fits) ∙ ap (λ (l : List (List ℕ)). put (120 * n) (flatten l) out) (sym joined) ∙ s.rest-stored;
        }

  pub storing_ends : NoFirst rest → (n ≡ length (items_in list)) × (header ≡ last_header no_header (items_in list)) × (put (120 * n) (trailer_for (items_in list)) out ≡ all)
  unfolding encode_from flatten last_header
  storing_ends past =
      let none : s.left ≡ [] = no_more rest past n s.left s.said in
      let count : length s.left ≡ 0 = ap (λ (l : List Item). length l) none in
      let last = trailer_for (items_in list) in (
        omega (arith, s.count),
        ap (last_header header) (sym none) ∙ s.header-last,
        ap (λ (l : List ℕ). put (120 * n) l out) (sym (append-nil last)) ∙ ap (λ (is : List Item). put (120 * n) (flatten (encode_from number header is ++ (last ∷ []))) out) (sym none) ∙ s.rest-stored,
      )
