-- A disposition that was found, among the parts of its flow; and what an amendment of it leaves, as the parts of another flow. Assumes
-- nothing.
use Prim.Native.Nat.{ℕ, suc, ◌+◌, ◌-◌, ◌*◌, ◌/◌, ◌≤◌, ◌<◌}
use mathlib.Core.List.{List, [], ◌∷◌, ◌++◌, append_assoc, map, map-map, map-append, flatten}
use mathlib.Core.Path.{◌≡◌, refl, sym, ◌∙◌, ap, ap₂, subst}
use native.Mathlib.Omega.{arith}
use lib.ListN.{length, take, drop, get_or, length-append, length-map, get_or-map}
use lib.Seq.{split_at, take_at, get_or_at, length-take-le}
use Rattle.sequences.specs.Part.{part, put}
use Rattle.sequences.proofs.All.{all-before}
use Rattle.sequences.proofs.Append.{parted}
use Rattle.sequences.proofs.Flatten.{flatten-append, flatten-flatten}
use Rattle.sequences.proofs.Part.{put-part, put_front, put_back, part-put_after, part_length, put-length}
use Rattle.fields.specs.Amount.{IsAmount}
use Rattle.fields.specs.Digits.{number, digits}
use Rattle.fields.proofs.Decimal.{written-length}
use Rattle.records.specs.Amount.{amount_in}
use Rattle.records.specs.Context.{header_of}
use Rattle.records.specs.Field.{field}
use Rattle.flow.specs.Find.{dispositions_in, find, find_with_totals}
use Rattle.flow.specs.Records.{record_at}
use Rattle.flow.specs.Verdict.{accepted}
use Rattle.flow.specs.declared.answer.Totals.{Totals}
use Rattle.flow.specs.declared.location.Location.{Location}
use Rattle.flow.specs.declared.location.WithTotals.{WithTotals}
use Rattle.flow.proofs.Accepted.{accepted-same, accepted_exact}
use Rattle.flow.proofs.Cut.{Whole, cut-count, cut_at, flatten-length}
use Rattle.flow.proofs.Dispositions.{found-has}
use Rattle.flow.proofs.FindWithTotals.{find-reads}
use Rattle.grammar.specs.Grammar.{Typed, Parts, records_in, disposition_amount, bytes_of, disposition_count, RightDisposition, Grammar}
use Rattle.grammar.specs.Rules.{Says}
use Rattle.grammar.proofs.Dispositions.{Opened, opened_by, opened_so}
use Rattle.grammar.proofs.Grammar.{grammar_exact, grammar_records, grammar_whole}
use Rattle.grammar.proofs.Parts.{between, dispositions_exact, find-known}
use Rattle.grammar.proofs.Rules.{says_digits}
use Rattle.amend.specs.Withdraw.{totals_left, recounted, without, numbered_from, records_left}
use Rattle.amend.specs.Change.{totals_changed}
use Rattle.amend.specs.Change.{changed as Change-changed}
use Rattle.amend.proofs.RulesKept.{repriced_record, total-place, total_from}
use Rattle.amend.proofs.PartsLeft.{amounts, sizes, totals_with, left_with, left-bytes, typed_from, typed_records, retold, here, rest, rest-count, rest_cents, rest-records, changed, changed-count, changed_cents, changed-records}

-- disposition k of an accepted flow, between those before it and those after it
pub record Neighbours (f : List ℕ) (k : ℕ) (v : WithTotals) : Type 0 where
  pub grammar : Grammar f v.totals
  pub pre : List (List Typed)
  pub this : List Typed
  pub post : List (List Typed)
  pub split : grammar.parts.dispositions ≡ pre ++ (this ∷ post)
  pub numbered : k ≡ 1 + length pre
  pub starts : v.location.first ≡ 2 + length (flatten (map records_in pre))
  pub sized : v.location.records ≡ length this
  pub amount : v.location.cents ≡ disposition_amount this
  pub found : dispositions_in f ≡ map records_in pre ++ (records_in this ∷ map records_in post)

pub neighbours_so : (f : List ℕ) (k : ℕ) {v : WithTotals} → find_with_totals f k ≡ accepted v → Neighbours f k v
neighbours_so f k {v} e =
    let both = find-reads f k e in
    let t = v.totals in
    let g = (grammar_exact f t).0 both.0 in
    let ds = g.parts.dispositions in
    let s = (found-has f k both.1).0 in
    let some = s.some in
    let within = s.within in
    let counted : disposition_count g.parts ≡ t.dispositions = ap (λ (u : Totals). u.dispositions) g.totals in
    let count : t.dispositions ≡ s.totals.dispositions = ap (λ (u : Totals). u.dispositions) (accepted-same (sym both.0 ∙ s.read)) in
    let less : k - 1 < length ds = omega arith in
    let on : suc (k - 1) ≡ k = omega arith in
    let split : ds ≡ take (k - 1) ds ++ (get_or ds (k - 1) [] ∷ drop (suc (k - 1)) ds) = split_at ds (k - 1) [] less in
    let exact = dispositions_exact f t g in
    let found : dispositions_in f ≡ map records_in (take (k - 1) ds) ++ (records_in (get_or ds (k - 1) []) ∷ map records_in (drop (suc (k - 1)) ds)) = exact ∙ ap (map records_in) split ∙ map-append records_in (take (k - 1) ds) (get_or ds (k - 1) [] ∷ drop (suc (k - 1)) ds) in
    let length-pre : length (take (k - 1) ds) ≡ k - 1 = length-take-le (k - 1) ds (omega arith) in
    let mapped : length (map records_in (take (k - 1) ds)) ≡ k - 1 = length-map (take (k - 1) ds) records_in ∙ length-pre in
    let front : take (k - 1) (dispositions_in f) ≡ map records_in (take (k - 1) ds) = ap (take (k - 1)) found ∙ take_at (map records_in (take (k - 1) ds)) _ (k - 1) mapped in
    let own : get_or (dispositions_in f) (k - 1) [] ≡ records_in (get_or ds (k - 1) []) = ap (λ (l : List (List (List ℕ))). get_or l (k - 1) []) exact ∙ get_or-map records_in ds (k - 1) [] in
    let told = accepted-same (sym both.1 ∙ ap (find f) (sym on) ∙ find-known f t both.0 (k - 1) (omega arith)) in
    record {
      grammar = g;
      pre = take (k - 1) ds;
      this = get_or ds (k - 1) [];
      post = drop (suc (k - 1)) ds;
      split = split;
      numbered = omega (arith, length-pre);
      starts = ap (λ (x : Location). x.first) told ∙ ap (λ (l : List (List (List ℕ))). suc (suc (length (flatten l)))) front ∙ omega arith;
      sized = ap (λ (x : Location). x.records) told ∙ ap (λ (l : List (List ℕ)). length l) own ∙ length-map (get_or ds (k - 1) []) (λ (r : Typed). r.bytes);
      amount = ap (λ (x : Location). x.cents) told ∙ ap (λ (l : List (List ℕ)). number (amount_in (get_or l 0 []))) own;
      found = found;
    }

-- the records of the flow, by index
module _ (f : List ℕ) (t : Totals) (g : Grammar f t) where
  abbrev records : List (List ℕ)
  records = (g.parts.header ∷ flatten (map records_in g.parts.dispositions)) ++ (g.parts.trailer ∷ [])

  records-whole : Whole records
  records-whole = subst Whole (sym (grammar_records f t g) ∙ between f t g) (grammar_whole f t g)

  pub size_so : t.records * 120 ≡ length f
  size_so = (accepted_exact f t ((grammar_exact f t).1 g)).2

  pub kind_so : g.parts.kind ≡ t.kind
  kind_so = ap (λ (u : Totals). u.kind) g.totals

  count_so : length records ≡ t.records
  count_so = omega (arith, ap (λ (l : List (List ℕ)). length l) (sym (between f t g)), cut-count (length f / 120) f, size_so)

  -- the header and the trailer
  at_so : (i : ℕ) → i < t.records → record_at i f ≡ get_or records i []
  at_so i h = sym (cut_at (length f / 120) i f (omega (arith, size_so))) ∙ ap (λ (l : List (List ℕ)). get_or l i []) (between f t g)

  abbrev front : List (List ℕ)
  front = g.parts.header ∷ flatten (map records_in g.parts.dispositions)

  front-count : length front ≡ t.records - 1
  front-count = omega (arith, length-append front (g.parts.trailer ∷ []), count_so)

  header_at : record_at 0 f ≡ g.parts.header
  header_at = at_so 0 (omega (arith, front-count, count_so, length-append front (g.parts.trailer ∷ [])))

  trailer_at : record_at (t.records - 1) f ≡ g.parts.trailer
  trailer_at =
      at_so (t.records - 1) (omega (arith, count_so, length-append front (g.parts.trailer ∷ [])))
      ∙ get_or_at front g.parts.trailer [] [] (t.records - 1) front-count

-- what is left without it
module _ (f : List ℕ) (k : ℕ) (v : WithTotals) (w : Neighbours f k v) where
  abbrev g : Grammar f v.totals
  g = w.grammar

  abbrev p : Parts
  p = w.grammar.parts

  abbrev pub rest_of : List (List Typed)
  rest_of = rest f v.totals g w.pre w.this w.post w.split

  -- those before it as they are, those after it numbered anew
  without-parts : without k (dispositions_in f) ≡ map records_in w.pre ++ numbered_from k (map records_in w.post)
  without-parts =
      let number : k ≡ 1 + length (map records_in w.pre) = w.numbered ∙ ap (λ (i : ℕ). 1 + i) (sym (length-map w.pre records_in)) in
      let parts = parted k [] (dispositions_in f) (map records_in w.pre) (records_in w.this) (map records_in w.post) w.found number in
      λ i. parts.0 i ++ numbered_from k (parts.2 i)

  without_so : without k (dispositions_in f) ≡ map records_in rest_of
  without_so =
      without-parts
      ∙ ap (λ (j : ℕ). map records_in w.pre ++ numbered_from j (map records_in w.post)) w.numbered
      ∙ ap (λ (l : List (List (List ℕ))). map records_in w.pre ++ l) (sym (typed_records (1 + length w.pre) w.post))
      ∙ sym (map-append records_in w.pre (typed_from (1 + length w.pre) w.post))

  pub withdrawn-left : flatten (records_left f k v.totals.records (totals_left v)) ≡ bytes_of (left_with p rest_of)
  withdrawn-left =
      let pre = w.pre in
      let this = w.this in
      let post = w.post in
      let t = v.totals in
      let kind = sym (kind_so f v.totals g) in
      let count : t.dispositions - 1 ≡ length rest_of = sym (rest-count f v.totals g pre this post w.split) in
      let cents : t.cents - v.location.cents ≡ amounts rest_of = ap (λ (x : ℕ). t.cents - x) w.amount ∙ sym (rest_cents f v.totals g pre this post w.split) in
      let records : t.records - v.location.records ≡ 2 + sizes rest_of = ap (λ (x : ℕ). t.records - x) w.sized ∙ sym (rest-records f v.totals g pre this post w.split) in
      (λ i. flatten ((header_at f v.totals g i ∷ flatten (without_so i)) ++ (recounted (record { kind = kind i; dispositions = count i; cents = cents i; records = records i }) (trailer_at f v.totals g i) ∷ [])))
      ∙ sym (left-bytes (left_with p rest_of))

-- a trailer that says the counts of other totals gets no other bytes than the sum
module _ (t : Totals) (rec : List ℕ) (whole : length rec ≡ 120) where
  -- digits that stand there already
  told : (i v w : ℕ) (bs : List ℕ) → length bs ≡ 120 → i + w ≤ 120 → Says v (part i w bs) → put i (digits w v) bs ≡ bs
  told i v w bs size fits says =
      let stands : part i w bs ≡ digits w v = says_digits w v (part i w bs) (part_length i w bs (omega arith)) says in
      ap (λ (l : List ℕ). put i l bs) (sym stands) ∙ put-part i w bs (omega arith)

  only-total : Says t.dispositions (field 46 52 rec) → Says t.records (field 83 89 rec) → recounted t rec ≡ put (total_from t.kind) (digits 15 t.cents) rec
  only-total count records =
      let at = total_from t.kind in
      let total = t.cents in
      let place = total-place t.kind in
      let size : length (digits 15 total) ≡ 15 = written-length 15 total in
      let fits : at + length (digits 15 total) ≤ length rec = omega arith in
      let one : put 45 (digits 7 t.dispositions) rec ≡ rec = told 45 t.dispositions 7 rec whole (omega arith) count in
      let kept : part 82 7 (put at (digits 15 total) rec) ≡ part 82 7 rec = part-put_after at (digits 15 total) rec fits 82 7 (omega arith) in
      let whole-still : length (put at (digits 15 total) rec) ≡ 120 = put-length at (digits 15 total) rec fits ∙ whole in
      ap (λ (l : List ℕ). put 82 (digits 7 t.records) (put at (digits 15 total) l)) one
      ∙ told 82 t.records 7 (put at (digits 15 total) rec) whole-still (omega arith) (subst (Says t.records) (sym kept) records)

-- bytes written over the second and the last of four lists joined
two-written :
    (i j : ℕ) (xs ys : List ℕ) (front here between last : List ℕ) → i + length xs ≤ length here
    → put (length (front ++ (here ++ between)) + j) ys (put (length front + i) xs (front ++ (here ++ (between ++ last)))) ≡ front ++ (put i xs here ++ (between ++ put j ys last))
two-written i j xs ys front here between last fits =
    let one : put (length front + i) xs (front ++ (here ++ (between ++ last))) ≡ (front ++ (put i xs here ++ between)) ++ last =
    put_back i xs front (here ++ (between ++ last)) ∙ ap (λ (l : List ℕ). front ++ l) (put_front i xs here (between ++ last) fits) ∙ simp append_assoc in
    let size : length (front ++ (here ++ between)) ≡ length (front ++ (put i xs here ++ between)) = rw (length-append, length-append, length-append, length-append, put-length i xs here fits) in
    ap₂ (λ (n : ℕ) (l : List ℕ). put (n + j) ys l) size one
    ∙ put_back j ys (front ++ (put i xs here ++ between)) last
    ∙ simp append_assoc

-- the bytes of the dispositions before it
module _ (f : List ℕ) (k : ℕ) (v : WithTotals) (w : Neighbours f k v) where
  before-bytes : length (flatten (map (λ (y : List Typed). flatten (records_in y)) w.pre)) ≡ 120 * length (flatten (map records_in w.pre))
  before-bytes =
      let g = w.grammar in
      let pre = map records_in w.pre in
      let rest = records_in w.this ∷ map records_in w.post in
      let P : List ℕ → Type 0 = λ rec. length rec ≡ 120 in
      let all : Whole (flatten (map records_in g.parts.dispositions)) = (all-before P (g.parts.header ∷ flatten (map records_in g.parts.dispositions)) (g.parts.trailer ∷ []) (records-whole f v.totals g)).1 in
      let same : flatten (map records_in g.parts.dispositions) ≡ flatten pre ++ flatten rest = ap (λ (l : List (List Typed)). flatten (map records_in l)) w.split ∙ ap flatten (map-append records_in w.pre (w.this ∷ w.post)) ∙ flatten-append pre rest in
      let within : Whole (flatten pre) = all-before P (flatten pre) (flatten rest) (subst Whole same all) in
      ap (λ (l : List ℕ). length l) (ap flatten (sym (map-map flatten records_in w.pre)) ∙ flatten-flatten pre) ∙ flatten-length (flatten pre) within

-- the bytes of a flow whose disposition between others is opened by a record
abbrev around : Parts → List (List Typed) → List Typed → List (List Typed) → List ℕ → List ℕ → List ℕ
around p pre rs post rec last =
    let bytes : List Typed → List ℕ = λ d. flatten (records_in d) in
    (p.header ++ flatten (map bytes pre)) ++ (rec ++ ((flatten (records_in rs) ++ flatten (map bytes post)) ++ last))

around_so :
    (p : Parts) (pre : List (List Typed)) (r : Typed) (rs : List Typed) (post : List (List Typed)) (last : List ℕ)
    → bytes_of (record { kind = p.kind; header = p.header; dispositions = pre ++ ((r ∷ rs) ∷ post); trailer = last }) ≡ around p pre rs post r.bytes last
unfolding flatten
around_so p pre r rs post last =
    let bytes : List Typed → List ℕ = λ d. flatten (records_in d) in
    ap (λ (l : List ℕ). p.header ++ (l ++ last)) (ap flatten (map-append bytes pre ((r ∷ rs) ∷ post)) ∙ flatten-append (map bytes pre) (map bytes ((r ∷ rs) ∷ post)))
    ∙ simp append_assoc

-- what is left with another amount
module _ (f : List ℕ) (k : ℕ) (v : WithTotals) (w : Neighbours f k v) (new : ℕ) (asked : IsAmount new) where
  abbrev own : Grammar f v.totals
  own = w.grammar

  abbrev pub changed_of : List (List Typed)
  changed_of = changed f v.totals own w.pre w.this w.post w.split new asked

  pub changed-left : Change-changed v.location.first new (totals_changed v new) f ≡ bytes_of (left_with own.parts changed_of)
  changed-left = go w.this (opened_so w.this (here f v.totals own w.pre w.this w.post w.split).order) refl
    where
      t : Totals
      t = v.totals

      first : ℕ
      first = v.location.first

      after : Totals
      after = totals_changed v new

      total : ℕ
      total = after.cents

      go : (x : List Typed) → Opened x → w.this ≡ x → Change-changed first new after f ≡ bytes_of (left_with own.parts changed_of)
      go x (opened_by r rs kind details) e =
          let p = own.parts in
          let pre = w.pre in
          let post = w.post in
          let T = p.trailer in
          let at = total_from t.kind in
          let R = r.bytes in
          let bytes : List Typed → List ℕ = λ d. flatten (records_in d) in
          let H = p.header ++ flatten (map bytes pre) in
          let M = flatten (records_in rs) ++ flatten (map bytes post) in
          let split = w.split ∙ ap (λ (y : List Typed). pre ++ (y ∷ post)) e in
          let joined : f ≡ H ++ (R ++ (M ++ T)) = sym own.bytes ∙ (λ i. bytes_of (record { kind = p.kind; header = p.header; dispositions = split i; trailer = T })) ∙ around_so p pre r rs post T in
          let right = here f v.totals own pre w.this post w.split in
          let opened : length R ≡ 120 = (subst (λ (y : List Typed). RightDisposition (header_of p.header).abi (1 + length pre) y) e right).records.0.0.whole in
          let closes : length T ≡ 120 = own.right.trailer_formed.whole in
          let starts : length H ≡ 120 * (first - 1) = length-append p.header (flatten (map bytes pre)) ∙ omega (arith, own.right.header_formed.whole, before-bytes f k v w, w.starts) in
          let size : t.records * 120 ≡ length f = size_so f v.totals own in
          let regrouped : H ++ (R ++ (M ++ T)) ≡ (H ++ (R ++ M)) ++ T = simp append_assoc in
          let all : length f ≡ length (H ++ (R ++ M)) + length T = ap (λ (l : List ℕ). length l) (joined ∙ regrouped) ∙ length-append (H ++ (R ++ M)) T in
          let ends : length (H ++ (R ++ M)) ≡ 120 * (t.records - 1) = omega arith in
          let fits : 33 + length (digits 13 new) ≤ length R = omega (arith, written-length 13 new) in
          let rules = own.right.trailer_rules in
          let said-count : Says t.dispositions (field 46 52 T) = subst (λ (u : Totals). Says u.dispositions (field 46 52 T)) own.totals rules.dispositions-said in
          let said-records : Says t.records (field 83 89 T) = subst (λ (u : Totals). Says u.records (field 83 89 T)) own.totals rules.records-said in
          let kind = kind_so f v.totals own in
          let count = changed-count f v.totals own pre w.this post w.split new asked in
          let cents : amounts changed_of ≡ total = changed_cents f v.totals own pre w.this post w.split new asked ∙ ap (λ (x : ℕ). t.cents - x + new) (sym w.amount) in
          let records = changed-records f v.totals own pre w.this post w.split new asked in
          let last : put at (digits 15 total) T ≡ recounted (totals_with p.kind changed_of) T = sym (only-total after T closes said-count said-records) ∙ (λ i. recounted (record { kind = sym kind i; dispositions = sym count i; cents = sym cents i; records = sym records i }) T) in
          (λ i. put (sym ends i + at) (digits 15 total) (put (sym starts i + 33) (digits 13 new) (joined i)))
          ∙ two-written 33 at (digits 13 new) (digits 15 total) H R M T fits
          ∙ sym (around_so p pre (record { kind = r.kind; bytes = repriced_record new R }) rs post (put at (digits 15 total) T))
          ∙ (λ i. bytes_of (record { kind = p.kind; header = p.header; dispositions = pre ++ (retold new (sym e i) ∷ post); trailer = last i }))
