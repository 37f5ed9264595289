-- The parts of a flow that an amendment leaves: other dispositions, and a trailer with their counts. Assumes nothing.
use Prim.Native.Nat.{ℕ, suc, ◌+◌, ◌-◌, ◌≤◌, ◌<◌}
use mathlib.Core.List.Memᴰ
use mathlib.Core.List.{List, [], ◌∷◌, ◌++◌, map, map-map, map-append, flatten, Memᴰ}
use mathlib.Core.Logic.{inr, ⊎_elim}
use mathlib.Core.Path.{◌≡◌, refl, sym, ◌∙◌, ap, ap₂, subst}
use native.Mathlib.Omega.{arith}
use lib.ListN.{length, get_or, length-append, length-map}
use Rattle.sequences.specs.All.{All}
use Rattle.sequences.specs.Part.{part}
use Rattle.sequences.specs.Sum.{sum}
use Rattle.sequences.proofs.All.{all_append, all-before, all_after}
use Rattle.sequences.proofs.Counted.{counted-before, counted_after, counted-append}
use Rattle.sequences.proofs.Flatten.{map-flatten}
use Rattle.sequences.proofs.Sum.{sum-append}
use Rattle.fields.specs.Amount.{IsAmount}
use Rattle.fields.specs.Digits.{number}
use Rattle.records.specs.Context.{header_of}
use Rattle.records.specs.Limits.{cents_limit, count_limit}
use Rattle.records.specs.declared.flow_kind.FlowKind.{FlowKind}
use Rattle.records.specs.declared.kind.RecordKind.{RecordKind}
use Rattle.records.specs.declared.kind.RecordKind.TheVariants.{R14, Ef}
use Rattle.flow.specs.Records.{records_of}
use Rattle.flow.specs.declared.answer.Totals.{Totals}
use Rattle.grammar.specs.Fault.{company_of}
use Rattle.grammar.specs.Grammar.{Typed, Parts, kinds_of, records_in, opening, disposition_amount, disposition_code, bytes_of, RightDisposition, RightDispositions, AllEqual, RightParts, Grammar}
use Rattle.grammar.specs.Rules.{Formed, KindRules, MemberRules}
use Rattle.grammar.specs.Shape.{Disposition}
use Rattle.grammar.proofs.Bytes.{parts_joined}
use Rattle.grammar.proofs.Dispositions.{Opened, opened_by, opened_so, Member}
use Rattle.grammar.proofs.Grammar.{counts_below}
use Rattle.grammar.proofs.Parts.{company_first}
use Rattle.amend.specs.Withdraw.{renumbered, numbered_from, recounted}
use Rattle.amend.proofs.RulesKept.{over_kept, kind-same, renumbered_formed, renumbered_rules, repriced_record, repriced_formed, repriced_says, repriced_code, repriced-kind, repriced_rules, recounted_formed, recounted_rules}

-- the amounts, and the records, of dispositions
abbrev pub amounts : List (List Typed) → ℕ
amounts ds = sum (map disposition_amount ds)

abbrev pub sizes : List (List Typed) → ℕ
sizes ds = sum (map (λ (d : List Typed). length d) ds)

-- dispositions of one kind
abbrev OfKind : FlowKind → List (List Typed) → Type 0
OfKind q ds = All (KindRules q) (map opening ds)

-- the totals of a flow of the kind with these dispositions
abbrev pub totals_with : FlowKind → List (List Typed) → Totals
totals_with q ds = record { kind = q; dispositions = length ds; cents = amounts ds; records = 2 + sizes ds }

-- the flow with other dispositions: its kind and the header as they were, and the trailer with their totals
abbrev pub left_with : Parts → List (List Typed) → Parts
left_with p ds = record { kind = p.kind; header = p.header; dispositions = ds; trailer = recounted (totals_with p.kind ds) p.trailer }

-- it keeps the rules where the dispositions do
pub left-right :
    (p : Parts) (ds : List (List Typed)) → RightParts p → 1 ≤ length ds → RightDispositions (header_of p.header).abi 1 ds → AllEqual (map disposition_code ds)
    → OfKind p.kind ds → length ds < count_limit → amounts ds < cents_limit → 2 + sizes ds < count_limit → RightParts (left_with p ds)
left-right p ds r some each codes kinds few small short =
    record {
      header_formed = r.header_formed;
      header_rules = r.header_rules;
      some = some;
      each = each;
      codes = codes;
      kinds = kinds;
      trailer_formed = recounted_formed (totals_with p.kind ds) p.trailer r.trailer_formed few small short;
      trailer_rules = recounted_rules (totals_with p.kind ds) p.trailer r.trailer_formed few small short (header_of p.header) refl r.trailer_rules;
    }

-- its bytes are its records, joined
pub left-bytes : (p : Parts) → bytes_of p ≡ flatten ((p.header ∷ flatten (map records_in p.dispositions)) ++ (p.trailer ∷ []))
left-bytes p =
    let bytes : Typed → List ℕ = λ r. r.bytes in
    let ms = flatten p.dispositions in
    sym (parts_joined p)
    ∙ ap (λ (l : List (List ℕ)). flatten (p.header ∷ l)) (map-append bytes ms (record { kind = Ef; bytes = p.trailer } ∷ []) ∙ ap (λ (l : List (List ℕ)). l ++ (p.trailer ∷ [])) (map-flatten bytes p.dispositions))

-- a disposition with another number, and dispositions numbered from j on
abbrev pub retyped : ℕ → Typed → Typed
retyped j r = record { kind = r.kind; bytes = renumbered j r.bytes }

abbrev pub typed_from : ℕ → List (List Typed) → List (List Typed)
typed_from j [] = []
typed_from j (d ∷ ds) = map (retyped j) d ∷ typed_from (suc j) ds

pub typed_records : (j : ℕ) (ds : List (List Typed)) → map records_in (typed_from j ds) ≡ numbered_from j (map records_in ds)
unfolding numbered_from
typed_records j [] = refl
typed_records j (d ∷ ds) =
    let one : records_in (map (retyped j) d) ≡ map (renumbered j) (records_in d) = map-map (λ (r : Typed). r.bytes) (retyped j) d ∙ sym (map-map (renumbered j) (λ (r : Typed). r.bytes) d) in
    ap₂ (λ (l : List (List ℕ)) (ls : List (List (List ℕ))). l ∷ ls) one (typed_records (suc j) ds)

pub typed_length : (j : ℕ) (ds : List (List Typed)) → length (typed_from j ds) ≡ length ds
typed_length j [] = refl
typed_length j (d ∷ ds) = ap suc (typed_length (suc j) ds)

pub typed_sizes : (j : ℕ) (ds : List (List Typed)) → sizes (typed_from j ds) ≡ sizes ds
typed_sizes j [] = refl
typed_sizes j (d ∷ ds) = ap₂ (λ (a b : ℕ). a + b) (length-map d (retyped j)) (typed_sizes (suc j) ds)

module _ (abi : List ℕ) (i j : ℕ) (small : j < count_limit) where
  members_retyped : (rs : List Typed) → All (Member abi i) rs → All (Member abi j) (map (retyped j) rs)
  members_retyped [] members = tt
  members_retyped (r ∷ rs) members =
      let m = members.0 in
      ((renumbered_formed r.kind abi i j r.bytes m.0 small, renumbered_rules r.kind abi i j r.bytes m.0 small m.1), members_retyped rs members.1)

  disposition_retyped : (d : List Typed) → RightDisposition abi i d → RightDisposition abi j (map (retyped j) d)
  disposition_retyped d r =
      record {
        order = subst Disposition (sym (map-map (λ (x : Typed). x.kind) (retyped j) d)) r.order;
        records = members_retyped d r.records;
      }

  -- what stands after its number in the record that opens it
  opening_kept : (d : List Typed) → RightDisposition abi i d → (a n : ℕ) → 10 ≤ a → part a n (opening (map (retyped j) d)) ≡ part a n (opening d)
  opening_kept [] r a n h = refl
  opening_kept (x ∷ xs) r a n h = over_kept 3 7 j x.bytes r.records.0.0.whole (omega arith) a n (inr h)

module _ (abi : List ℕ) where
  pub typed_numbered : (j : ℕ) (ds : List (List Typed)) → j + length ds ≤ count_limit → RightDispositions abi (suc j) ds → RightDispositions abi j (typed_from j ds)
  typed_numbered j [] few each = tt
  typed_numbered j (d ∷ ds) few each =
      (disposition_retyped abi (suc j) j (omega arith) d each.0, typed_numbered (suc j) ds (omega arith) each.1)

  pub typed_kept : {A : Type 0} (what : List ℕ → A) (a n j : ℕ) (ds : List (List Typed)) → 10 ≤ a → j + length ds ≤ count_limit → RightDispositions abi (suc j) ds
      → map (λ (d : List Typed). what (part a n (opening d))) (typed_from j ds) ≡ map (λ (d : List Typed). what (part a n (opening d))) ds
  typed_kept what a n j [] h few each = refl
  typed_kept {A} what a n j (d ∷ ds) h few each =
      let one : what (part a n (opening (map (retyped j) d))) ≡ what (part a n (opening d)) = ap what (opening_kept abi (suc j) j (omega arith) d each.0 a n h) in
      ap₂ (λ (x : A) (xs : List A). x ∷ xs) one (typed_kept what a n (suc j) ds h (omega arith) each.1)

  typed_kinds : (q : FlowKind) (j : ℕ) (ds : List (List Typed)) → j + length ds ≤ count_limit → RightDispositions abi (suc j) ds → OfKind q ds → OfKind q (typed_from j ds)
  typed_kinds q j [] few each kinds = tt
  typed_kinds q j (d ∷ ds) few each kinds =
      let one = kind-same (opening d) (opening (map (retyped j) d)) (λ a n h. opening_kept abi (suc j) j (omega arith) d each.0 a n h.0) q kinds.0 in
      (one, typed_kinds q (suc j) ds (omega arith) each.1 kinds.1)

-- each of these codes is one of those; so are those without one of them, be it the first
abbrev pub Among : List (List ℕ) → List (List ℕ) → Type 0
Among less codes = (c : List ℕ) → Memᴰ c less → Memᴰ c codes

without-one : (xs ys : List (List ℕ)) (x : List ℕ) → Among (xs ++ ys) (xs ++ (x ∷ ys))
without-one xs ys x c m = ⊎_elim (λ front. Memᴰ.append_left (x ∷ ys) front) (λ back. Memᴰ.append_right xs (Memᴰ.tail back)) (Memᴰ.append_cases xs m)

-- they are equal where all are (document 02, E4)
among-equal : (less codes : List (List ℕ)) → Among less codes → AllEqual codes → AllEqual less
among-equal less codes among equal a b m k = equal a b (among a m) (among b k)

-- and the first of them is the first of all: a flow left has the company code of the flow before
pub company_kept :
    (f : List ℕ) (t : Totals) (g : Grammar f t) (left : List ℕ) (u : Totals) (h : Grammar left u)
    → Among (map disposition_code h.parts.dispositions) (map disposition_code g.parts.dispositions) → company_of (records_of left) ≡ company_of (records_of f)
company_kept f t g left u h among =
    company_first left u h ∙ first g.parts.dispositions h.parts.dispositions g.right.some h.right.some among g.right.codes ∙ sym (company_first f t g)
  where
    first :
        (ds es : List (List Typed)) → 1 ≤ length ds → 1 ≤ length es → Among (map disposition_code es) (map disposition_code ds) → AllEqual (map disposition_code ds)
        → disposition_code (get_or es 0 []) ≡ disposition_code (get_or ds 0 [])
    first [] es none some among equal = absurd (omega arith)
    first (d ∷ ds) [] some none among equal = absurd (omega arith)
    first (d ∷ ds) (e ∷ es) some more among equal = equal (disposition_code e) (disposition_code d) (among (disposition_code e) (Memᴰ.head refl)) (Memᴰ.head refl)

-- a disposition with another amount in the record that opens it
abbrev pub retold : ℕ → List Typed → List Typed
retold new [] = []
retold new (r ∷ rs) = record { kind = r.kind; bytes = repriced_record new r.bytes } ∷ rs

pub record Retold (abi : List ℕ) (i new : ℕ) (d : List Typed) : Type 0 where
  pub right : RightDisposition abi i (retold new d)
  pub amount : disposition_amount (retold new d) ≡ new
  pub code : disposition_code (retold new d) ≡ disposition_code d
  pub kind : (q : FlowKind) → KindRules q (opening d) → KindRules q (opening (retold new d))
  pub size : length (retold new d) ≡ length d

pub retold_so : (abi : List ℕ) (i new : ℕ) (d : List Typed) → IsAmount new → RightDisposition abi i d → Retold abi i new d
retold_so abi i new d asked r = go d (opened_so d r.order) r.order r.records
  where
    go : (d : List Typed) → Opened d → Disposition (kinds_of d) → All (Member abi i) d → Retold abi i new d
    go d (opened_by r rs e details) order members =
        let m = members.0 in
        let rec = r.bytes in
        let formed = subst (λ (k : RecordKind). Formed k rec) e m.0 in
        let rules = subst (λ (k : RecordKind). MemberRules k abi i rec) e m.1 in
        let member : Formed R14 (repriced_record new rec) × MemberRules R14 abi i (repriced_record new rec) = (repriced_formed abi i new rec formed asked, repriced_rules abi i new rec formed asked rules) in
        record {
          right =
              record {
                order = order;
                records = (subst (λ (k : RecordKind). Formed k (repriced_record new rec) × MemberRules k abi i (repriced_record new rec)) (sym e) member, members.1);
              };
          amount = (repriced_says abi i new rec formed asked).1;
          code = repriced_code abi i new rec formed asked;
          kind = repriced-kind abi i new rec formed asked;
          size = refl;
        }

-- a flow of the grammar with a disposition among the others
module _ (f : List ℕ) (t : Totals) (g : Grammar f t) (pre : List (List Typed)) (x : List Typed) (post : List (List Typed)) (split : g.parts.dispositions ≡ pre ++ (x ∷ post)) where
  abbrev p : Parts
  p = g.parts

  abbrev abi : List ℕ
  abi = (header_of p.header).abi

  abbrev number_of : ℕ
  number_of = 1 + length pre

  each : RightDispositions abi 1 (pre ++ (x ∷ post))
  each = subst (RightDispositions abi 1) split g.right.each

  pub here : RightDisposition abi number_of x
  here = (counted_after (RightDisposition abi) 1 pre (x ∷ post) each).0

  before : RightDispositions abi 1 pre
  before = counted-before (RightDisposition abi) 1 pre (x ∷ post) each

  pub after : RightDispositions abi (suc number_of) post
  after = (counted_after (RightDisposition abi) 1 pre (x ∷ post) each).1

  -- its counts
  pub count_split : t.dispositions ≡ length pre + suc (length post)
  count_split = sym (ap (λ (u : Totals). u.dispositions) g.totals) ∙ ap (λ (ds : List (List Typed)). length ds) split ∙ length-append pre (x ∷ post)

  pub cents_split : t.cents ≡ amounts pre + (disposition_amount x + amounts post)
  cents_split = sym (ap (λ (u : Totals). u.cents) g.totals) ∙ ap amounts split ∙ ap sum (map-append disposition_amount pre (x ∷ post)) ∙ sum-append (map disposition_amount pre) (map disposition_amount (x ∷ post))

  pub records_split : t.records ≡ 2 + (sizes pre + (length x + sizes post))
  records_split =
      let size : List Typed → ℕ = λ d. length d in
      sym (ap (λ (u : Totals). u.records) g.totals) ∙ ap (λ (ds : List (List Typed)). 2 + sizes ds) split ∙ ap (λ (l : List ℕ). 2 + sum l) (map-append size pre (x ∷ post)) ∙ ap (λ (m : ℕ). 2 + m) (sum-append (map size pre) (map size (x ∷ post)))

  pub below : (t.dispositions < count_limit) × (t.cents < cents_limit) × (t.records < count_limit)
  below =
      subst (λ (u : Totals). (u.dispositions < count_limit) × (u.cents < cents_limit) × (u.records < count_limit)) g.totals (counts_below p g.right)

  codes_split : map disposition_code p.dispositions ≡ map disposition_code pre ++ (disposition_code x ∷ map disposition_code post)
  codes_split = ap (map disposition_code) split ∙ map-append disposition_code pre (x ∷ post)

  -- the kinds of those before it, of it and of those after it
  kinds : OfKind p.kind pre × OfKind p.kind (x ∷ post)
  kinds =
      let P = KindRules p.kind in
      let all : All P (map opening pre ++ map opening (x ∷ post)) = subst (All P) (ap (map opening) split ∙ map-append opening pre (x ∷ post)) g.right.kinds in
      (all-before P (map opening pre) (map opening (x ∷ post)) all, all_after P (map opening pre) (map opening (x ∷ post)) all)

  -- and of those before it with others after them
  kinds_joined : (ds : List (List Typed)) → OfKind p.kind ds → OfKind p.kind (pre ++ ds)
  kinds_joined ds back =
      let P = KindRules p.kind in
      subst (All P) (sym (map-append opening pre ds)) (all_append P (map opening pre) (map opening ds) kinds.0 back)

  -- without it
  abbrev pub rest : List (List Typed)
  rest = pre ++ typed_from number_of post

  rest-few : number_of + length post ≤ count_limit
  rest-few = omega (arith, count_split, below)

  pub rest-count : length rest ≡ t.dispositions - 1
  rest-count = length-append pre (typed_from number_of post) ∙ omega (arith, typed_length number_of post, count_split)

  pub rest_cents : amounts rest ≡ t.cents - disposition_amount x
  rest_cents =
      ap sum (map-append disposition_amount pre (typed_from number_of post)) ∙ sum-append (map disposition_amount pre) (map disposition_amount (typed_from number_of post))
      ∙ omega (arith, ap sum (typed_kept abi number 33 13 number_of post (omega arith) rest-few after), cents_split)

  pub rest-records : 2 + sizes rest ≡ t.records - length x
  rest-records =
      let size : List Typed → ℕ = λ d. length d in
      ap (λ (l : List ℕ). 2 + sum l) (map-append size pre (typed_from number_of post)) ∙ ap (λ (m : ℕ). 2 + m) (sum-append (map size pre) (map size (typed_from number_of post)))
      ∙ omega (arith, typed_sizes number_of post, records_split)

  pub rest-codes : Among (map disposition_code rest) (map disposition_code p.dispositions)
  rest-codes c m =
      let same : map disposition_code rest ≡ map disposition_code pre ++ map disposition_code post = map-append disposition_code pre (typed_from number_of post) ∙ ap (λ (l : List (List ℕ)). map disposition_code pre ++ l) (typed_kept abi (λ (bs : List ℕ). bs) 91 5 number_of post (omega arith) rest-few after) in
      subst (Memᴰ c) (sym codes_split) (without-one (map disposition_code pre) (map disposition_code post) (disposition_code x) c (subst (Memᴰ c) same m))

  pub rest-right : 2 ≤ t.dispositions → RightParts (left_with p rest)
  rest-right some =
      let b = below in
      left-right p rest g.right
      (omega (arith, rest-count))
      (counted-append (RightDisposition abi) 1 pre (typed_from number_of post) before (typed_numbered abi number_of post rest-few after))
      (among-equal (map disposition_code rest) (map disposition_code p.dispositions) rest-codes g.right.codes)
      (kinds_joined (typed_from number_of post) (typed_kinds abi p.kind number_of post rest-few after kinds.1.1))
      (omega (arith, rest-count))
      (omega (arith, rest_cents))
      (omega (arith, rest-records))

  -- with another amount in the record that opens it
  module _ (new : ℕ) (asked : IsAmount new) where
    abbrev pub changed : List (List Typed)
    changed = pre ++ (retold new x ∷ post)

    retold_here : Retold abi number_of new x
    retold_here = retold_so abi number_of new x asked here

    pub changed-count : length changed ≡ t.dispositions
    changed-count = length-append pre (retold new x ∷ post) ∙ omega (arith, count_split)

    pub changed_cents : amounts changed ≡ t.cents - disposition_amount x + new
    changed_cents =
        ap sum (map-append disposition_amount pre (retold new x ∷ post)) ∙ sum-append (map disposition_amount pre) (map disposition_amount (retold new x ∷ post))
        ∙ omega (arith, retold_here.amount, cents_split)

    pub changed-records : 2 + sizes changed ≡ t.records
    changed-records =
        let size : List Typed → ℕ = λ d. length d in
        ap (λ (l : List ℕ). 2 + sum l) (map-append size pre (retold new x ∷ post)) ∙ ap (λ (m : ℕ). 2 + m) (sum-append (map size pre) (map size (retold new x ∷ post)))
        ∙ omega (arith, retold_here.size, records_split)

    pub changed_numbered : RightDispositions abi 1 changed
    changed_numbered = counted-append (RightDisposition abi) 1 pre (retold new x ∷ post) before (retold_here.right, after)

    pub changed-codes : Among (map disposition_code changed) (map disposition_code p.dispositions)
    changed-codes c m =
        let same : map disposition_code changed ≡ map disposition_code pre ++ (disposition_code x ∷ map disposition_code post) = map-append disposition_code pre (retold new x ∷ post) ∙ ap (λ (l : List ℕ). map disposition_code pre ++ (l ∷ map disposition_code post)) retold_here.code in
        subst (Memᴰ c) (same ∙ sym codes_split) m

    pub changed-right : t.cents - disposition_amount x + new < cents_limit → RightParts (left_with p changed)
    changed-right fits =
        let b = below in
        left-right p changed g.right
        (omega (arith, changed-count, count_split))
        changed_numbered
        (among-equal (map disposition_code changed) (map disposition_code p.dispositions) changed-codes g.right.codes)
        (kinds_joined (retold new x ∷ post) (retold_here.kind p.kind kinds.1.0, kinds.1.1))
        (omega (arith, changed-count))
        (omega (arith, changed_cents))
        (omega (arith, changed-records))
