-- A flow's own list, record by record, and a loop that stores it. Assumes nothing.
use Prim.Native.Nat.{ℕ, suc, ◌+◌, ◌-◌, ◌*◌, ◌/◌, ◌≤◌, ◌<◌}
use mathlib.Core.List.{List, [], ◌∷◌, ◌++◌, map, flatten, append-nil, map-append}
use mathlib.Core.Path.{◌≡◌, refl, sym, ◌∙◌, ap}
use native.Mathlib.Numerals.{add-one}
use native.Mathlib.Omega.{arith}
use lib.ListN.{length, drop, set, length-append}
use lib.Seq.{set_split}
use Rattle.sequences.specs.Part.{put}
use Rattle.sequences.proofs.Flatten.{flatten-append}
use Rattle.sequences.proofs.Part.{put-append, put-length, put-nothing}
use Rattle.records.specs.declared.flow_kind.FlowKind.{FlowKind}
use Rattle.flow.specs.ExactTotals.{kind_of}
use Rattle.flow.specs.Records.{cut, record_at, records_of}
use Rattle.flow.proofs.Cut.{cut_next, cut_end, record_whole}
use Rattle.list.specs.Items.{item_bytes, list_bytes}
use Rattle.list.specs.ReadBack.{gather, item_of, item_length, list_of}
use Rattle.list.specs.Table.{letter, carried, body_length, row_in}
use Rattle.list.specs.declared.table.ItemKind.{ItemKind}
use Rattle.list.proofs.Gathering.{body_at_most, body_gathered}
use Rattle.std.specs.Prelude.{Option, Some, None}

-- the item of a record as bytes: none, or its kind byte and its carried bytes
pub no_item : (q : FlowKind) (rec : List ℕ) → row_in q rec ≡ None → list_bytes (item_of q rec) ≡ []
unfolding flatten
no_item q rec none = rw none

pub item-bytes : (q : FlowKind) (rec : List ℕ) (k : ItemKind) → row_in q rec ≡ Some k → list_bytes (item_of q rec) ≡ letter k ∷ gather (carried k) rec
unfolding flatten
item-bytes q rec k row = rw row (append-nil (letter k ∷ gather (carried k) rec))

-- as many as its row says, and no more than 111
pub item_count : (q : FlowKind) (rec : List ℕ) → length rec ≡ 120 → length (list_bytes (item_of q rec)) ≡ item_length (row_in q rec)
item_count q rec whole = by (row_in q rec) refl
  where
    by : (row : Option ItemKind) → row_in q rec ≡ row → length (list_bytes (item_of q rec)) ≡ item_length (row_in q rec)
    by (Some k) e = ap length (item-bytes q rec k e) ∙ rw e (ap suc (body_gathered rec whole k))
    by None e = ap length (no_item q rec e) ∙ rw e

pub item_at_most : (row : Option ItemKind) → item_length row ≤ 111
item_at_most (Some k) = omega (arith, body_at_most k)
item_at_most None = omega arith

-- its kind byte stored, and then the carried bytes after it
pub item_stored :
    (q : FlowKind) (rec : List ℕ) → length rec ≡ 120 → (k : ItemKind) → row_in q rec ≡ Some k → (from : ℕ) (out : List ℕ) → from + 1 + body_length k ≤ length out
    → put (from + 1) (gather (carried k) rec) (set out from (letter k)) ≡ put from (list_bytes (item_of q rec)) out
item_stored q rec whole k row from out fits =
    let body = gather (carried k) rec in
    let one : set out from (letter k) ≡ put from (letter k ∷ []) out = rw add-one (set_split out from (letter k) (omega arith)) in
    let size : length body ≡ body_length k = body_gathered rec whole k in
    rw (item-bytes q rec k row, one) (sym (put-append from (letter k ∷ []) body out (omega arith)))

-- the items of the records from index i on, of a flow of the kind
abbrev pub list_from : FlowKind → List ℕ → ℕ → List ℕ
list_from q f i = list_bytes (flatten (map (item_of q) (cut (length f / 120 - i) (drop (120 * i) f))))

pub list_all : (q : FlowKind) (f : List ℕ) → q ≡ kind_of (records_of f) → list_from q f 0 ≡ list_of f
list_all q f kind = let all : length f / 120 - 0 ≡ length f / 120 = omega arith in rw (all, kind)

-- for a loop over i: the item of the record at i, then the rest; and past the end none is left
pub list_next : (q : FlowKind) (f : List ℕ) (i : ℕ) → i < length f / 120 → list_from q f i ≡ list_bytes (item_of q (record_at i f)) ++ list_from q f (suc i)
unfolding flatten
list_next q f i h =
    let rest = flatten (map (item_of q) (cut (length f / 120 - suc i) (drop (120 * suc i) f))) in
    rw (cut_next (length f / 120) i f h)
    (ap flatten (map-append item_bytes (item_of q (record_at i f)) rest) ∙ flatten-append (map item_bytes (item_of q (record_at i f))) (map item_bytes rest))

pub length_next : (q : FlowKind) (f : List ℕ) (i : ℕ) → i < length f / 120 → length (list_from q f i) ≡ item_length (row_in q (record_at i f)) + length (list_from q f (suc i))
length_next q f i h =
    let bytes = list_bytes (item_of q (record_at i f)) in
    ap length (list_next q f i h) ∙ length-append bytes (list_from q f (suc i)) ∙ ap (λ (n : ℕ). n + length (list_from q f (suc i))) (item_count q (record_at i f) (record_whole f i h))

pub list_end : (q : FlowKind) (f : List ℕ) (i : ℕ) → length f / 120 ≤ i → list_from q f i ≡ []
unfolding flatten
list_end q f i h = rw (cut_end (length f / 120) i (drop (120 * i) f) h)

-- the items of the first i records are stored, up to an index; the others still find room after it, and then all are there
pub record Listing (q : FlowKind) (f out₀ out : List ℕ) (from i : ℕ) : Type 0 where
  pub same : length out ≡ length out₀
  pub room : from + length (list_from q f i) ≤ length out
  pub left : put from (list_from q f i) out ≡ put 0 (list_of f) out₀

pub listing : (q : FlowKind) (f out : List ℕ) → q ≡ kind_of (records_of f) → length (list_of f) ≤ length out → Listing q f out out 0 0
listing q f out kind fits = record { same = refl; room = rw (list_all q f kind) (omega arith); left = rw (list_all q f kind) }

module _ {q : FlowKind} {f out₀ out : List ℕ} {from i : ℕ} (l : Listing q f out₀ out from i) where
  -- one more, written after the others
  module _ (more : i < length f / 120) where
    pub item-fits : from + item_length (row_in q (record_at i f)) ≤ length out
    item-fits = let room = l.room in omega (arith, length_next q f i more)

    pub listed_next : Listing q f out₀ (put from (list_bytes (item_of q (record_at i f))) out) (from + item_length (row_in q (record_at i f))) (suc i)
    listed_next =
        let bytes = list_bytes (item_of q (record_at i f)) in
        let rest = list_from q f (suc i) in
        let room = l.room in
        let size : length bytes ≡ item_length (row_in q (record_at i f)) = item_count q (record_at i f) (record_whole f i more) in
        let fits : from + length bytes + length rest ≤ length out = omega (arith, length_next q f i more) in
        let kept : length (put from bytes out) ≡ length out = put-length from bytes out (omega arith) in
        record {
          same = kept ∙ l.same;
          room = rw (← size, kept) fits;
          left = rw (← size, ← put-append from bytes rest out fits, ← list_next q f i more) l.left;
        }

  pub listed_all : length f / 120 ≤ i → out ≡ put 0 (list_of f) out₀
  listed_all done = sym (put-nothing from out) ∙ ap (λ (l : List ℕ). put from l out) (sym (list_end q f i done)) ∙ l.left
