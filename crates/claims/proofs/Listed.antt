-- The list of a flow, disposition by disposition, and what the ledger makes of it. Assumes nothing.
use Prim.Native.Nat.{ℕ, suc, ◌+◌, ◌-◌, ◌≤◌}
use mathlib.Core.Bool.{Bool, false, cond}
use mathlib.Core.List.{List, [], ◌∷◌, ◌++◌, map, map-append, flatten}
use mathlib.Core.Logic.{◌⊎◌, inl, inr}
use mathlib.Core.Path.{◌≡◌, refl, sym, ◌∙◌, ap, ap₂, subst}
use native.Mathlib.Omega.{arith}
use lib.ListN.{length, take, drop, get_or, length-map}
use Rattle.sequences.specs.All.{All}
use Rattle.sequences.specs.Part.{part, put}
use Rattle.sequences.proofs.Append.{parted}
use Rattle.sequences.proofs.Part.{part_length, part-put, put_at}
use Rattle.fields.specs.Digits.{digits, number}
use Rattle.fields.proofs.Decimal.{written-length}
use Rattle.records.specs.Amount.{amount_span, amount_in}
use Rattle.records.specs.Field.{Span, ◌to◌, first_of, last_of}
use Rattle.records.specs.Kinds.{heads}
use Rattle.records.specs.declared.flow_kind.FlowKind.{FlowKind}
use Rattle.records.specs.declared.kind.RecordKind.{RecordKind}
use Rattle.records.specs.declared.kind.RecordKind.TheVariants.{R14}
use Rattle.flow.specs.declared.location.WithTotals.{WithTotals}
use Rattle.grammar.specs.Grammar.{Typed, kinds_of, RightDispositions, RightDisposition, disposition_amount}
use Rattle.grammar.proofs.Dispositions.{Detail, Opened, opened_by, opened_so, Member}
use Rattle.list.specs.Encode.{amount_index, amount_carried, item_amount, list_cents}
use Rattle.list.specs.Items.{Item, item, record_kind}
use Rattle.list.specs.ReadBack.{gather, items_of}
use Rattle.list.specs.Table.{record_of, carried}
use Rattle.list.proofs.Carried.{gather_at}
use Rattle.list.proofs.OwnDispositions.{items_by, item_of_header, detail_record, detail_shut, head_so, dispositions_so}
use Rattle.list.proofs.RecordsAgain.{kind_for, own_item}
use Rattle.list.proofs.TableSpans.{carried-within, carried_after_number}
use Rattle.amend.specs.Withdraw.{renumbered}
use Rattle.amend.proofs.Neighbours.{Neighbours}
use Rattle.amend.proofs.RulesKept.{over_kept}
use Rattle.amend.proofs.RulesKept.{repriced_record}
use Rattle.amend.proofs.PartsLeft.{amounts, retyped, typed_from, retold}
use Rattle.claims.specs.Ledger.{dispositions, repriced, first_repriced, with_amount, without_disposition}
use Rattle.claims.proofs.Encoded.{detail_heads}

-- disposition k among them
module _ (f : List ℕ) (k : ℕ) (v : WithTotals) (w : Neighbours f k v) where
  abbrev kind : FlowKind
  kind = v.totals.kind

  abbrev own : Item
  own = item_of_header kind w.grammar.parts.header

  abbrev before : List (List Item)
  before = items_by kind w.pre

  abbrev here : List Item
  here = map (own_item kind) w.this

  abbrev after : List (List Item)
  after = items_by kind w.post

  found_so : dispositions (items_of f) ≡ before ++ (here ∷ after)
  found_so = dispositions_so f v.totals w.grammar ∙ ap (items_by kind) w.split ∙ map-append (map (own_item kind)) w.pre (w.this ∷ w.post)

  parts : (take (k - 1) (dispositions (items_of f)) ≡ before) × (get_or (dispositions (items_of f)) (k - 1) [] ≡ here) × (drop k (dispositions (items_of f)) ≡ after)
  parts = parted k [] (dispositions (items_of f)) before here after found_so (w.numbered ∙ ap (λ (i : ℕ). 1 + i) (sym (length-map w.pre (map (own_item kind)))))

  pub without_listed : without_disposition k (items_of f) ≡ own ∷ flatten (before ++ after)
  unfolding without_disposition
  without_listed = λ i. head_so f v.totals w.grammar i ++ flatten (parts.0 i ++ parts.2 i)

  pub amount_listed : (new : ℕ) → with_amount k new (items_of f) ≡ own ∷ flatten (before ++ (first_repriced new here ∷ after))
  unfolding with_amount
  amount_listed new = λ i. head_so f v.totals w.grammar i ++ flatten (parts.0 i ++ (first_repriced new (parts.1 i) ∷ parts.2 i))

-- bytes carried from after the number are not touched by another number
gather_kept :
    (ss : List Span) (rec other : List ℕ) → All (λ (t : Span). 10 ≤ first_of t - 1) ss → ((a n : ℕ) → 10 ≤ a → part a n other ≡ part a n rec) → gather ss other ≡ gather ss rec
unfolding flatten
gather_kept [] rec other beyond same = refl
gather_kept ((a to e) ∷ ss) rec other beyond same =
    ap₂ (λ (xs ys : List ℕ). xs ++ ys) (same (a - 1) (e - (a - 1)) beyond.0) (gather_kept ss rec other beyond.1 same)

carried_kept : (q : FlowKind) (r : Typed) (j : ℕ) → length r.bytes ≡ 120 → heads (record_kind (own_item q r)) ≡ false → own_item q (retyped j r) ≡ own_item q r
carried_kept q r j whole member = ap (item (kind_for q r.kind)) (gather_kept (carried (kind_for q r.kind)) r.bytes (renumbered j r.bytes) (carried_after_number (kind_for q r.kind) member) (λ a n h. over_kept 3 7 j r.bytes whole (omega arith) a n (inr h)))

module _ (q : FlowKind) (abi : List ℕ) where
  details_kept : (i j : ℕ) (rs : List Typed) → All Detail (kinds_of rs) → All (Member abi i) rs → map (own_item q) (map (retyped j) rs) ≡ map (own_item q) rs
  details_kept i j [] details members = refl
  details_kept i j (r ∷ rs) details members =
      ap₂ (λ (x : Item) (xs : List Item). x ∷ xs) (carried_kept q r j members.0.0.whole (ap heads (detail_record q r.kind details.0) ∙ detail_heads r.kind details.0)) (details_kept i j rs details.1 members.1)

  pub items_retyped : (i j : ℕ) (d : List Typed) → RightDisposition abi i d → map (own_item q) (map (retyped j) d) ≡ map (own_item q) d
  items_retyped i j d right = go d (opened_so d right.order) right.records
    where
      go : (d : List Typed) → Opened d → All (Member abi i) d → map (own_item q) (map (retyped j) d) ≡ map (own_item q) d
      go d (opened_by r rs e details) members =
          ap₂ (λ (x : Item) (xs : List Item). x ∷ xs) (carried_kept q r j members.0.0.whole (ap (λ (k : RecordKind). heads (record_of (kind_for q k))) e)) (details_kept i j rs details members.1)

  -- so dispositions that are numbered anew have the same items
  pub typed_items : (i j : ℕ) (ds : List (List Typed)) → RightDispositions abi i ds → items_by q (typed_from j ds) ≡ items_by q ds
  typed_items i j [] each = refl
  typed_items i j (d ∷ ds) each = ap₂ (λ (x : List Item) (xs : List (List Item)). x ∷ xs) (items_retyped i j d each.0) (typed_items (suc i) (suc j) ds each.1)

-- and another amount in a 14 is another amount in its D
gather-repriced : (q : FlowKind) (new : ℕ) (rec : List ℕ) → length rec ≡ 120 → gather (carried (kind_for q R14)) (repriced_record new rec) ≡ put amount_index (digits 13 new) (gather (carried (kind_for q R14)) rec)
unfolding flatten
gather-repriced q new rec whole =
    let other = repriced_record new rec in
    let size = written-length 13 new in
    let fits : 33 + length (digits 13 new) ≤ length rec = omega arith in
    let kept : (b w : ℕ) → (b + w ≤ 33) ⊎ (46 ≤ b) → part b w other ≡ part b w rec = over_kept 33 13 new rec whole (omega arith) in
    let here : part 33 13 other ≡ digits 13 new = ap (λ (w : ℕ). part 33 w other) (sym size) ∙ part-put 33 (digits 13 new) rec fits in
    let front = kept 22 6 (inl (omega arith)) in
    let third = kept 52 17 (inr (omega arith)) in
    let fourth = kept 91 22 (inr (omega arith)) in
    (λ i. front i ++ (here i ++ (third i ++ (fourth i ++ []))))
    ∙ sym (put_at 6 (part 22 6 rec) (part 33 13 rec) (part 52 17 rec ++ (part 91 22 rec ++ [])) (digits 13 new) (part_length 22 6 rec (omega arith)) (part_length 33 13 rec (omega arith) ∙ sym size))

module _ (q : FlowKind) (new : ℕ) where
  opening-item : (r : Typed) → r.kind ≡ R14 → length r.bytes ≡ 120 → own_item q (record { kind = r.kind; bytes = repriced_record new r.bytes }) ≡ repriced new (own_item q r)
  opening-item r e whole =
      ap (item (kind_for q r.kind))
      (subst (λ (k : RecordKind). gather (carried (kind_for q k)) (repriced_record new r.bytes) ≡ put amount_index (digits 13 new) (gather (carried (kind_for q k)) r.bytes)) (sym e) (gather-repriced q new r.bytes whole))

  pub items_retold : (abi : List ℕ) (i : ℕ) (d : List Typed) → RightDisposition abi i d → map (own_item q) (retold new d) ≡ first_repriced new (map (own_item q) d)
  items_retold abi i d right = go d (opened_so d right.order) right.records
    where
      go : (d : List Typed) → Opened d → All (Member abi i) d → map (own_item q) (retold new d) ≡ first_repriced new (map (own_item q) d)
      go d (opened_by r rs e details) members = ap (λ (x : Item). x ∷ map (own_item q) rs) (opening-item r e members.0.0.whole)

-- the cents of items
cents_append : (xs ys : List Item) → list_cents (xs ++ ys) ≡ list_cents xs + list_cents ys
unfolding list_cents
cents_append [] ys = omega arith
cents_append (x ∷ xs) ys = omega (arith, cents_append xs ys)

details_cents : (q : FlowKind) (rs : List Typed) → All Detail (kinds_of rs) → list_cents (map (own_item q) rs) ≡ 0
unfolding list_cents
details_cents q [] details = refl
details_cents q (r ∷ rs) details =
    let none : item_amount (own_item q r) ≡ 0 = ap (λ (b : Bool). cond b (number (amount_carried (own_item q r).body)) 0) (detail_shut q r.kind details.0) in
    omega (arith, details_cents q rs details.1)

opening_cents : (q : FlowKind) (r : Typed) → r.kind ≡ R14 → length r.bytes ≡ 120 → item_amount (own_item q r) ≡ number (amount_in r.bytes)
opening_cents q r e whole =
    subst (λ (k : RecordKind). item_amount (item (kind_for q k) (gather (carried (kind_for q k)) r.bytes)) ≡ number (amount_in r.bytes)) (sym e)
    (ap number (gather_at (carried (kind_for q R14)) (first_of amount_span) (last_of amount_span) r.bytes (carried-within (kind_for q R14)) whole refl))

disposition_cents : (q : FlowKind) (abi : List ℕ) (i : ℕ) (d : List Typed) → RightDisposition abi i d → list_cents (map (own_item q) d) ≡ disposition_amount d
unfolding list_cents
disposition_cents q abi i d right = go d (opened_so d right.order) right.records
  where
    go : (d : List Typed) → Opened d → All (Member abi i) d → list_cents (map (own_item q) d) ≡ disposition_amount d
    go d (opened_by r rs e details) members = omega (arith, opening_cents q r e members.0.0.whole, details_cents q rs details)

pub items_cents : (q : FlowKind) (abi : List ℕ) (i : ℕ) (ds : List (List Typed)) → RightDispositions abi i ds → list_cents (flatten (items_by q ds)) ≡ amounts ds
unfolding list_cents flatten
items_cents q abi i [] each = refl
items_cents q abi i (d ∷ ds) each =
    cents_append (map (own_item q) d) (flatten (items_by q ds)) ∙ omega (arith, disposition_cents q abi i d each.0, items_cents q abi (suc i) ds each.1)
