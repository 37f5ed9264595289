-- A flow is canonical exactly where each of its records is what its item encodes; so amendments keep it canonical. Assumes nothing.
use Prim.Native.Nat.{ℕ, suc, ◌+◌, ◌≤◌}
use mathlib.Core.Bool.{Bool, cond}
use mathlib.Core.List.{List, [], ◌∷◌, ◌++◌, map, map-map, flatten, head-eq_of_cons-eq, tail-eq_of_cons-eq}
use mathlib.Core.Path.{◌≡◌, refl, sym, ◌∙◌, ap, ap₂, subst}
use native.Mathlib.Omega.{arith}
use lib.ListN.{length, length-append, length-map}
use Rattle.sequences.specs.All.{All}
use Rattle.sequences.specs.Counted.{Counted}
use Rattle.sequences.proofs.Append.{append-same}
use Rattle.sequences.proofs.Counted.{counted-before, counted_after, counted-append}
use Rattle.fields.specs.Amount.{IsAmount}
use Rattle.records.specs.Context.{header_of}
use Rattle.records.specs.Kinds.{heads, opens, opened}
use Rattle.records.specs.Limits.{most_cents}
use Rattle.records.specs.declared.flow_kind.FlowKind.{FlowKind}
use Rattle.records.specs.declared.kind.RecordKind.{RecordKind}
use Rattle.flow.specs.Records.{records_of}
use Rattle.grammar.specs.Grammar.{Typed, kinds_of, records_in, RightDispositions, RightDisposition, Grammar}
use Rattle.grammar.proofs.Dispositions.{Detail, detail_opens, Opened, opened_by, opened_so, Member, InShape}
use Rattle.grammar.proofs.Grammar.{grammar_shape}
use Rattle.grammar.proofs.Parts.{between}
use Rattle.list.specs.Encode.{HeaderMeant, no_header, encode_item, encode_from, encode_trailer, header_after, records_for, trailer_for, encode}
use Rattle.list.specs.Items.{Item, record_kind, Proper}
use Rattle.list.specs.ReadBack.{items_of, Canonical}
use Rattle.list.specs.Table.{record_of}
use Rattle.list.proofs.AllRecords.{encoded-count, encode-records}
use Rattle.list.proofs.Gathering.{body_gathered}
use Rattle.list.proofs.Judging.{header_stays_one}
use Rattle.list.proofs.OwnDispositions.{items_by, item_of_header, detail_record, listed_so}
use Rattle.list.proofs.RecordsAgain.{kind_for, own_item}
use Rattle.list.proofs.Rewritten.{own_list_items, own_proper_all, trailer_so}
use Rattle.flow.specs.declared.answer.Totals.{Totals}
use Rattle.flow.specs.declared.location.WithTotals.{WithTotals}
use Rattle.amend.specs.Change.{totals_changed, changed}
use Rattle.amend.specs.Withdraw.{renumbered, totals_left, recounted, records_left}
use Rattle.amend.proofs.Neighbours.{Neighbours, rest_of, changed_of}
use Rattle.amend.proofs.Answered.{withdrawn_grammar, changed_grammar}
use Rattle.amend.proofs.RulesKept.{repriced_record}
use Rattle.amend.proofs.PartsLeft.{totals_with, left-bytes, retyped, typed_from, retold, here, after}
use Rattle.claims.specs.Ledger.{first_repriced}
use Rattle.claims.proofs.Encoded.{detail_heads, trailer-recounted, detail_renumbered, opening-renumbered, opening-repriced}
use Rattle.claims.proofs.Listed.{items_retyped, items_retold}

-- a disposition after i others, each record of which is what its item encodes; and dispositions
abbrev pub AsItems : HeaderMeant → ℕ → List Typed → Type 0
AsItems header i d = records_in d ≡ map (encode_item (suc i) header) (map (own_item header.kind) d)

module _ (header : HeaderMeant) where
  abbrev item_own : Typed → Item
  item_own = own_item header.kind

  abbrev pub Encoded : ℕ → List (List Typed) → Type 0
  Encoded i ds = Counted (AsItems header) i ds

  -- the items of one disposition all get its number
  details_encoded : (i : ℕ) (rs : List Typed) (is : List Item) → All Detail (kinds_of rs) → encode_from i header (map item_own rs ++ is) ≡ map (encode_item i header) (map item_own rs) ++ encode_from i header is
  unfolding encode_from
  details_encoded i [] is details = refl
  details_encoded i (r ∷ rs) is details =
      let k = record_kind (item_own r) in
      let same : k ≡ r.kind = detail_record header.kind r.kind details.0 in
      let shut : opened k ≡ 0 = ap (λ (b : Bool). cond b 1 0) (ap opens same ∙ detail_opens r.kind details.0) in
      let number : i + opened k ≡ i = omega arith in
      let meant : header_after header (item_own r) ≡ header = header_stays_one header (item_own r) (ap heads same ∙ detail_heads r.kind details.0) in
      (λ j. encode_item (number j) header (item_own r) ∷ encode_from (number j) (meant j) (map item_own rs ++ is))
      ∙ ap (λ (l : List (List ℕ)). encode_item i header (item_own r) ∷ l) (details_encoded i rs is details.1)

  disposition-encoded : (i : ℕ) (d : List Typed) (is : List Item) → Opened d → encode_from i header (map item_own d ++ is) ≡ map (encode_item (suc i) header) (map item_own d) ++ encode_from (suc i) header is
  unfolding encode_from
  disposition-encoded i d is (opened_by r rs e details) =
      let k = record_kind (item_own r) in
      let same = ap (λ (l : RecordKind). record_of (kind_for header.kind l)) e in
      let one : opened k ≡ 1 = ap opened same in
      let number : i + opened k ≡ suc i = omega arith in
      let meant : header_after header (item_own r) ≡ header = header_stays_one header (item_own r) (ap heads same) in
      (λ j. encode_item (number j) header (item_own r) ∷ encode_from (number j) (meant j) (map item_own rs ++ is))
      ∙ ap (λ (l : List (List ℕ)). encode_item (suc i) header (item_own r) ∷ l) (details_encoded (suc i) rs is details)

  -- so they are the records that their items encode, one after the other
  encoded_joined : (i : ℕ) (ds : List (List Typed)) → InShape ds → Encoded i ds → flatten (map records_in ds) ≡ encode_from i header (flatten (items_by header.kind ds))
  unfolding flatten encode_from
  encoded_joined i [] shape e = refl
  encoded_joined i (d ∷ ds) shape e =
      ap₂ (λ (xs ys : List (List ℕ)). xs ++ ys) e.0 (encoded_joined (suc i) ds shape.1 e.1) ∙ sym (disposition-encoded i d (flatten (items_by header.kind ds)) (opened_so d shape.0))

  joined_encoded : (i : ℕ) (ds : List (List Typed)) → InShape ds → flatten (map records_in ds) ≡ encode_from i header (flatten (items_by header.kind ds)) → Encoded i ds
  unfolding flatten
  joined_encoded i [] shape e = tt
  joined_encoded i (d ∷ ds) shape e =
      let items = map item_own d in
      let size : length (records_in d) ≡ length (map (encode_item (suc i) header) items) = length-map d (λ (r : Typed). r.bytes) ∙ sym (length-map items (encode_item (suc i) header) ∙ length-map d item_own) in
      let both = append-same (records_in d) (map (encode_item (suc i) header) items) (flatten (map records_in ds)) (encode_from (suc i) header (flatten (items_by header.kind ds))) size (e ∙ disposition-encoded i d (flatten (items_by header.kind ds)) (opened_so d shape.0)) in
      (both.0, joined_encoded (suc i) ds shape.1 both.1)

-- a header with its kind is what later records are encoded with
abbrev pub meant_by : FlowKind → List ℕ → HeaderMeant
meant_by q im = record { kind = q; body = (item_of_header q im).body }

-- the three parts of a canonical flow
pub record AsEncoded (f : List ℕ) (t : Totals) (g : Grammar f t) : Type 0 where
  pub header : g.parts.header ≡ encode_item 0 no_header (item_of_header t.kind g.parts.header)
  pub dispositions : Encoded (meant_by t.kind g.parts.header) 0 g.parts.dispositions
  pub trailer : g.parts.trailer ≡ encode_trailer (meant_by t.kind g.parts.header).body t

module _ (f : List ℕ) (t : Totals) (g : Grammar f t) where
  abbrev im : List ℕ
  im = g.parts.header

  abbrev ds : List (List Typed)
  ds = g.parts.dispositions

  abbrev q : FlowKind
  q = t.kind

  abbrev meant : HeaderMeant
  meant = meant_by q im

  abbrev own : List Item
  own = item_of_header q im ∷ flatten (items_by q ds)

  own_so : items_of f ≡ own
  own_so = listed_so f t g

  records_so : records_for own ≡ encode_item 0 no_header (item_of_header q im) ∷ encode_from 0 meant (flatten (items_by q ds))
  unfolding encode_from
  records_so = refl

  trailer-meant : trailer_for own ≡ encode_trailer meant.body t
  trailer-meant = ap trailer_for (sym own_so ∙ own_list_items f t g) ∙ trailer_so f t g

  again : records_of (encode own) ≡ records_for own ++ (trailer_for own ∷ [])
  again = encode-records own (subst (All Proper) (sym (own_list_items f t g) ∙ own_so) (own_proper_all f t g))

  pub canonical-encoded : Canonical f → AsEncoded f t g
  canonical-encoded canonical =
      let same : records_for own ++ (trailer_for own ∷ []) ≡ (im ∷ flatten (map records_in ds)) ++ (g.parts.trailer ∷ []) = sym again ∙ ap records_of (ap encode (sym own_so) ∙ canonical) ∙ between f t g in
      let count : length (records_for own) ≡ length own = encoded-count 0 no_header own in
      let joined = length-append (records_for own) (trailer_for own ∷ []) in
      let parted = length-append (im ∷ flatten (map records_in ds)) (g.parts.trailer ∷ []) in
      let size : length (records_for own) ≡ length (im ∷ flatten (map records_in ds)) = omega (arith, ap (λ (l : List (List ℕ)). length l) same) in
      let both = append-same (records_for own) (im ∷ flatten (map records_in ds)) (trailer_for own ∷ []) (g.parts.trailer ∷ []) size same in
      let front = sym both.0 ∙ records_so in
      record {
        header = head-eq_of_cons-eq front;
        dispositions = joined_encoded meant 0 ds (grammar_shape f t g) (tail-eq_of_cons-eq front);
        trailer = sym (head-eq_of_cons-eq both.1) ∙ trailer-meant;
      }

  pub encoded-canonical : AsEncoded f t g → Canonical f
  encoded-canonical e =
      let front : records_for own ≡ im ∷ flatten (map records_in ds) = records_so ∙ (λ i. sym e.header i ∷ sym (encoded_joined meant 0 ds (grammar_shape f t g) e.dispositions) i) in
      ap encode own_so ∙ (λ i. flatten (front i ++ ((trailer-meant ∙ sym e.trailer) i ∷ []))) ∙ sym (left-bytes g.parts) ∙ g.bytes

-- the item of a record
own_proper : (q : FlowKind) (r : Typed) → length r.bytes ≡ 120 → Proper (own_item q r)
own_proper q r whole = record { sized = body_gathered r.bytes whole (kind_for q r.kind) }

-- dispositions with other numbers are what their items encode with these numbers
module _ (header : HeaderMeant) (abi : List ℕ) where
  abbrev kind : FlowKind
  kind = header.kind

  details_numbered :
      (i j n : ℕ) (rs : List Typed) → All Detail (kinds_of rs) → All (Member abi n) rs
      → map (renumbered j) (map (encode_item i header) (map (own_item kind) rs)) ≡ map (encode_item j header) (map (own_item kind) rs)
  details_numbered i j n [] details members = refl
  details_numbered i j n (r ∷ rs) details members =
      let proper = own_proper kind r members.0.0.whole in
      ap₂ (λ (x : List ℕ) (xs : List (List ℕ)). x ∷ xs) (detail_renumbered i j header (own_item kind r) proper (subst Detail (sym (detail_record kind r.kind details.0)) details.0)) (details_numbered i j n rs details.1 members.1)

  records_numbered :
      (i j n : ℕ) (d : List Typed) → RightDisposition abi n d → map (renumbered j) (map (encode_item i header) (map (own_item kind) d)) ≡ map (encode_item j header) (map (own_item kind) d)
  records_numbered i j n d right = go d (opened_so d right.order) right.records
    where
      go : (d : List Typed) → Opened d → All (Member abi n) d → map (renumbered j) (map (encode_item i header) (map (own_item kind) d)) ≡ map (encode_item j header) (map (own_item kind) d)
      go d (opened_by r rs e details) members =
          let proper = own_proper kind r members.0.0.whole in
          ap₂ (λ (x : List ℕ) (xs : List (List ℕ)). x ∷ xs) (opening-renumbered i j header (own_item kind r) proper (ap (λ (k : RecordKind). record_of (kind_for kind k)) e)) (details_numbered i j n rs details members.1)

  pub typed_encoded : (i n : ℕ) (ds : List (List Typed)) → RightDispositions abi n ds → Encoded header (suc i) ds → Encoded header i (typed_from (suc i) ds)
  typed_encoded i n [] each e = tt
  typed_encoded i n (d ∷ ds) each e =
      let j = suc i in
      let one : records_in (map (retyped j) d) ≡ map (renumbered j) (records_in d) = map-map (λ (r : Typed). r.bytes) (retyped j) d ∙ sym (map-map (renumbered j) (λ (r : Typed). r.bytes) d) in (
        one ∙ ap (map (renumbered j)) e.0 ∙ records_numbered (suc j) j n d each.0 ∙ ap (map (encode_item j header)) (sym (items_retyped kind abi n j d each.0)),
        typed_encoded (suc i) (suc n) ds each.1 e.1,
      )

  -- and one with another amount what its items encode with it
  retold_encoded :
      (i n new : ℕ) (d : List Typed) → RightDisposition abi n d → records_in d ≡ map (encode_item i header) (map (own_item kind) d) → records_in (retold new d) ≡ map (encode_item i header) (map (own_item kind) (retold new d))
  retold_encoded i n new d right e = go d (opened_so d right.order) right.records e ∙ ap (map (encode_item i header)) (sym (items_retold kind new abi n d right))
    where
      go : (d : List Typed) → Opened d → All (Member abi n) d → records_in d ≡ map (encode_item i header) (map (own_item kind) d) → records_in (retold new d) ≡ map (encode_item i header) (first_repriced new (map (own_item kind) d))
      go d (opened_by r rs opens_so details) members e =
          let proper = own_proper kind r members.0.0.whole in
          let opening = ap (repriced_record new) (head-eq_of_cons-eq e) ∙ opening-repriced i new header (own_item kind r) proper (ap (kind_for header.kind) opens_so) in
          ap₂ (λ (x : List ℕ) (xs : List (List ℕ)). x ∷ xs) opening (tail-eq_of_cons-eq e)

-- so an amendment of a canonical flow leaves a canonical one
module _ (f : List ℕ) (k : ℕ) (v : WithTotals) (w : Neighbours f k v) (canonical : Canonical f) where
  abbrev t : Totals
  t = v.totals

  abbrev g : Grammar f t
  g = w.grammar

  abbrev header : HeaderMeant
  header = meant_by t.kind g.parts.header

  abbrev abi : List ℕ
  abi = (header_of g.parts.header).abi

  was : AsEncoded f t g
  was = canonical-encoded f t g canonical

  each : Encoded header 0 (w.pre ++ (w.this ∷ w.post))
  each = subst (Encoded header 0) w.split was.dispositions

  abbrev count : ℕ
  count = 0 + length w.pre

  front : Encoded header 0 w.pre
  front = counted-before (AsItems header) 0 w.pre (w.this ∷ w.post) each

  back : Encoded header count (w.this ∷ w.post)
  back = counted_after (AsItems header) 0 w.pre (w.this ∷ w.post) each

  recounted-trailer :
      (ds : List (List Typed)) {u : Totals} → totals_with g.parts.kind ds ≡ u → recounted (totals_with g.parts.kind ds) g.parts.trailer ≡ encode_trailer header.body u
  recounted-trailer ds same =
      let left = totals_with g.parts.kind ds in
      ap (recounted left) was.trailer ∙ trailer-recounted header.body t left (ap (λ (u : Totals). u.kind) (sym g.totals)) ∙ ap (encode_trailer header.body) same

  pub withdrawn-canonical : (some : 2 ≤ t.dispositions) → Canonical (flatten (records_left f k t.records (totals_left v)))
  withdrawn-canonical some =
      let left = withdrawn_grammar f k v w some in
      let same : suc count ≡ 1 + length w.pre = omega arith in
      let rest : Encoded header count (typed_from (1 + length w.pre) w.post) = subst (λ (j : ℕ). Encoded header count (typed_from j w.post)) same (typed_encoded header abi count _ w.post (after f t g w.pre w.this w.post w.split) back.1) in
      let ds = rest_of f k v w in
      encoded-canonical (flatten (records_left f k t.records (totals_left v))) (totals_left v) left
      (record {
        header = was.header;
        dispositions = counted-append (AsItems header) 0 w.pre (typed_from (1 + length w.pre) w.post) front rest;
        trailer = recounted-trailer ds left.totals;
      })

  pub changed-canonical : (new : ℕ) (asked : IsAmount new) (fits : (totals_changed v new).cents ≤ most_cents) → Canonical (changed v.location.first new (totals_changed v new) f)
  changed-canonical new asked fits =
      let left = changed_grammar f k v new w asked fits in
      let ds = changed_of f k v w new asked in
      let this = retold_encoded header abi (suc count) (1 + length w.pre) new w.this (here f t g w.pre w.this w.post w.split) back.0 in
      encoded-canonical (changed v.location.first new (totals_changed v new) f) (totals_changed v new) left
      (record {
        header = was.header;
        dispositions = counted-append (AsItems header) 0 w.pre (retold new w.this ∷ w.post) front (this, back.1);
        trailer = recounted-trailer ds left.totals;
      })
