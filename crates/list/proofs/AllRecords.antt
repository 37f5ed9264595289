-- The records that items encode, and their items again. Assumes nothing.
use Prim.Native.Nat.{ℕ, suc, ◌+◌, ◌*◌, ◌≤◌}
use mathlib.Core.List.{List, [], ◌∷◌, ◌++◌, append-nil, map, map-append, flatten}
use mathlib.Core.Path.{◌≡◌, refl, sym, ◌∙◌, ap}
use native.Mathlib.Omega.{arith}
use lib.ListN.{length, drop, length-append}
use lib.Seq.{length-take-le}
use Rattle.sequences.specs.All.{All}
use Rattle.sequences.specs.Part.{part}
use Rattle.sequences.proofs.All.{all_append}
use Rattle.sequences.proofs.Flatten.{flatten-append}
use Rattle.sequences.proofs.Part.{part_at_most}
use Rattle.fields.specs.Bytes.{is_equal}
use Rattle.fields.specs.Digits.{digits}
use Rattle.fields.proofs.Decimal.{written-length}
use Rattle.records.specs.Constants.{currency}
use Rattle.records.specs.Field.{field}
use Rattle.records.specs.FlowKinds.{total_at}
use Rattle.records.specs.Kinds.{type_of, opened}
use Rattle.records.specs.declared.flow_kind.FlowKind.{FlowKind}
use Rattle.records.specs.declared.kind.RecordKind.TheVariants.{Ef}
use Rattle.flow.specs.ExactTotals.{kind_of}
use Rattle.flow.specs.Records.{records_of}
use Rattle.flow.proofs.Cut.{Whole, flatten-length, joined_records}
use Rattle.flow.specs.declared.answer.Totals.{Totals}
use Rattle.list.specs.Encode.{blanks, copied_in, HeaderMeant, no_header, kind_meant, header_after, last_header, list_totals, encode_item, trailer_placed, encode_trailer, encode_from, records_for, trailer_for, encode}
use Rattle.list.specs.Items.{Item, record_kind, Proper}
use Rattle.list.specs.ReadBack.{item_of, items_of}
use Rattle.list.specs.Table.{rows_of, record_of, first_row, row_in}
use Rattle.list.specs.declared.table.ItemKind.{ItemKind}
use Rattle.list.specs.declared.table.ItemKind.TheVariants.{H}
use Rattle.list.proofs.ItemKinds.{each_item}
use Rattle.list.proofs.OneRecord.{encoded-length, encoded-type, encoded-body}
use Rattle.list.proofs.Placing.{Fits, Matches, InRow, fill-length, row_stands}
use Rattle.std.specs.Prelude.{Option, Some, None}

-- an item that may stand in the list of a flow of the kind: it is no header's, or that kind's
abbrev pub Suits : FlowKind → ItemKind → Type 0
Suits q k = kind_meant q k ≡ q

-- the row of a record, by its type: that of an item's record is the item's, and EF has none
abbrev row_for : FlowKind → List ℕ → Option ItemKind
row_for q type = first_row (λ (l : ItemKind). is_equal type (type_of (record_of l))) (rows_of q)

row_typed : (q : FlowKind) (k : ItemKind) → Suits q k → row_for q (type_of (record_of k)) ≡ Some k
unfolding first_row is_equal
row_typed q = each_item (λ (k : ItemKind). Suits q k → row_for q (type_of (record_of k)) ≡ Some k) (own, (own, (λ e. refl, (λ e. refl, (λ e. refl, (λ e. refl, (λ e. refl, (λ e. refl, (λ e. refl, (λ e. refl, (λ e. refl, tt)))))))))))
  where
    own : {p : FlowKind} → p ≡ q → Some (H q) ≡ Some (H p)
    own e = ap (λ (p : FlowKind). Some (H p)) (sym e)

pub row_in_lem : (q : FlowKind) (k : ItemKind) (rec : List ℕ) → Suits q k → field 2 3 rec ≡ type_of (record_of k) → row_in q rec ≡ Some k
row_in_lem q k rec suits e = ap (row_for q) e ∙ row_typed q k suits

pub no_row_in : (q : FlowKind) (rec : List ℕ) → field 2 3 rec ≡ type_of Ef → row_in q rec ≡ None
unfolding first_row is_equal
no_row_in q rec e = ap (row_for q) e

-- EF
module _ (header : List ℕ) (t : Totals) where
  abbrev copied : List ℕ
  copied = copied_in header

  copied_short : length copied ≤ 42
  copied_short = part_at_most 0 42 header

  trailer-fits : All Fits (trailer_placed copied t)
  trailer-fits =
      let short = copied_short in
      (omega arith, (omega arith, (omega (arith, written-length 7 t.dispositions), (omega (arith, written-length 15 (total_at t.kind 53 t.cents)), (omega (arith, written-length 15 (total_at t.kind 68 t.cents)), (omega (arith, written-length 7 t.records), (omega arith, tt)))))))

  trailer-row : InRow (trailer_placed copied t)
  trailer-row =
      let short = copied_short in
      let count = written-length 7 t.dispositions in
      let asked = written-length 15 (total_at t.kind 53 t.cents) in
      let recalled = written-length 15 (total_at t.kind 68 t.cents) in
      let records = written-length 7 t.records in (
        (omega arith, (omega arith, (omega arith, (omega arith, (omega arith, (omega arith, tt)))))),
        (
          (omega arith, (omega arith, (omega arith, (omega arith, (omega arith, tt))))),
          (
            (omega arith, (omega arith, (omega arith, (omega arith, tt)))),
            (
              (omega arith, (omega arith, (omega arith, tt))),
              (
                (omega arith, (omega arith, tt)),
                ((omega arith, tt), (tt, tt)),
              ),
            ),
          ),
        ),
      )

  pub trailer-length : length (encode_trailer header t) ≡ 120
  unfolding encode_trailer
  trailer-length = fill-length (trailer_placed copied t) blanks trailer-fits refl

  -- each of its fields stands
  stands : All (Matches (encode_trailer header t)) (trailer_placed copied t)
  unfolding encode_trailer
  stands = row_stands (trailer_placed copied t) blanks trailer-fits refl trailer-row

  pub trailer-type : field 2 3 (encode_trailer header t) ≡ type_of Ef
  trailer-type = stands.0

  pub trailer_copied : 45 ≤ length header → field 4 45 (encode_trailer header t) ≡ copied
  trailer_copied long =
      let size : length copied ≡ 42 = length-take-le 42 (drop 0 header) (omega arith) in
      ap (λ (m : ℕ). part 3 m (encode_trailer header t)) (sym size) ∙ stands.1.0

  pub trailer-dispositions : field 46 52 (encode_trailer header t) ≡ digits 7 t.dispositions
  trailer-dispositions = ap (λ (m : ℕ). part 45 m (encode_trailer header t)) (sym (written-length 7 t.dispositions)) ∙ stands.1.1.0

  pub trailer-asked : field 53 67 (encode_trailer header t) ≡ digits 15 (total_at t.kind 53 t.cents)
  trailer-asked = ap (λ (m : ℕ). part 52 m (encode_trailer header t)) (sym (written-length 15 (total_at t.kind 53 t.cents))) ∙ stands.1.1.1.0

  pub trailer_recalled : field 68 82 (encode_trailer header t) ≡ digits 15 (total_at t.kind 68 t.cents)
  trailer_recalled = ap (λ (m : ℕ). part 67 m (encode_trailer header t)) (sym (written-length 15 (total_at t.kind 68 t.cents))) ∙ stands.1.1.1.1.0

  pub trailer-records : field 83 89 (encode_trailer header t) ≡ digits 7 t.records
  trailer-records = ap (λ (m : ℕ). part 82 m (encode_trailer header t)) (sym (written-length 7 t.records)) ∙ stands.1.1.1.1.1.0

  pub trailer-currency : field 114 114 (encode_trailer header t) ≡ currency
  trailer-currency = stands.1.1.1.1.1.1.0

-- records of 120 bytes
pub encoded-whole : (n : ℕ) (header : HeaderMeant) (is : List Item) → All Proper is → Whole (encode_from n header is)
unfolding encode_from
encoded-whole n header [] proper = tt
encoded-whole n header (it ∷ is) proper = (encoded-length _ header it proper.0, encoded-whole (n + opened (record_kind it)) (header_after header it) is proper.1)

pub encoded-count : (n : ℕ) (header : HeaderMeant) (is : List Item) → length (encode_from n header is) ≡ length is
unfolding encode_from
encoded-count n header [] = refl
encoded-count n header (it ∷ is) = ap suc (encoded-count (n + opened (record_kind it)) (header_after header it) is)

-- whose items are those that they were encoded from
one-item : (q : FlowKind) (n : ℕ) (header : HeaderMeant) (it : Item) → Proper it → Suits q it.kind → item_of q (encode_item n header it) ≡ it ∷ []
one-item q n header it proper suits =
    let row : row_in q (encode_item n header it) ≡ Some it.kind = row_in_lem q it.kind (encode_item n header it) suits (encoded-type n header it proper) in
    rw (row, encoded-body n header it proper)

abbrev pub AllSuit : FlowKind → List Item → Type 0
AllSuit q is = All (λ (it : Item). Suits q it.kind) is

pub items-encoded : (q : FlowKind) (n : ℕ) (header : HeaderMeant) (is : List Item) → All Proper is → AllSuit q is → flatten (map (item_of q) (encode_from n header is)) ≡ is
unfolding encode_from flatten
items-encoded q n header [] proper suit = refl
items-encoded q n header (it ∷ is) proper suit =
    rw (one-item q _ header it proper.0 suit.0) (ap (λ (l : List Item). it ∷ l) (items-encoded q (n + opened (record_kind it)) (header_after header it) is proper.1 suit.1))

-- what a list encodes: its records, and its own list
module _ (is : List Item) (proper : All Proper is) where
  abbrev all : List (List ℕ)
  all = records_for is ++ (trailer_for is ∷ [])

  all_whole : Whole all
  all_whole = all_append (λ (rec : List ℕ). length rec ≡ 120) (records_for is) (trailer_for is ∷ []) (encoded-whole 0 no_header is proper) (trailer-length (last_header no_header is).body (list_totals is), tt)

  pub encode-records : records_of (encode is) ≡ all
  encode-records = joined_records all all_whole

  pub encode-length : length (encode is) ≡ 120 * suc (length is)
  encode-length = flatten-length all all_whole ∙ ap (λ (m : ℕ). 120 * m) (length-append (records_for is) (trailer_for is ∷ []) ∙ omega (arith, encoded-count 0 no_header is))

  -- where its items suit the kind of flow that its records are
  pub encode-items : AllSuit (kind_of (records_of (encode is))) is → items_of (encode is) ≡ is
  unfolding flatten
  encode-items suit =
      let q = kind_of (records_of (encode is)) in
      let none : item_of q (trailer_for is) ≡ [] = rw (no_row_in q (trailer_for is) (trailer-type (last_header no_header is).body (list_totals is))) in
      ap (λ (recs : List (List ℕ)). flatten (map (item_of q) recs)) encode-records
      ∙ ap flatten (map-append (item_of q) (records_for is) (trailer_for is ∷ []))
      ∙ flatten-append (map (item_of q) (records_for is)) (item_of q (trailer_for is) ∷ [])
      ∙ cc (items-encoded q 0 no_header is proper suit, none, append-nil is)
