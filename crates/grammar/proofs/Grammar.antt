-- A flow is accepted exactly where it is one of the grammar, with its exact sums. Assumes nothing.
use Prim.Native.Nat.{ℕ, suc, ◌+◌, ◌*◌, ◌/◌, ◌≤◌, ◌<◌}
use mathlib.Core.List.{List, [], ◌∷◌, ◌++◌, append-nil, map, map-append, flatten, nil≢cons, head-eq_of_cons-eq, tail-eq_of_cons-eq}
use mathlib.Core.Logic.{◌↔◌, ◌⊎◌, inl, inr}
use mathlib.Core.Path.{◌≡◌, refl, sym, ◌∙◌, ap, subst}
use native.Mathlib.Omega.{arith}
use lib.ListN.{length, take, length-append, length-map}
use lib.Seq.{take_at}
use Rattle.sequences.specs.All.{All}
use Rattle.sequences.specs.Part.{part}
use Rattle.sequences.proofs.All.{all_at}
use Rattle.sequences.proofs.Flatten.{flatten-count}
use Rattle.sequences.proofs.Map.{map_split}
use Rattle.sequences.proofs.Part.{part_length}
use Rattle.records.specs.Checks.{checks}
use Rattle.records.specs.Context.{Header, header_of}
use Rattle.records.specs.Field.{field}
use Rattle.records.specs.FlowKinds.{or_requests}
use Rattle.records.specs.RecordVerdict.{Hold}
use Rattle.records.specs.Limits.{cents_limit, count_limit}
use Rattle.records.specs.declared.flow_kind.FlowKind.{FlowKind}
use Rattle.records.specs.declared.flow_kind.FlowKind.TheVariants.{Requests, Recalls}
use Rattle.records.specs.declared.kind.RecordKind.{RecordKind}
use Rattle.records.specs.declared.kind.RecordKind.TheVariants.{Im, Ef}
use Rattle.flow.specs.Judge.{walk_totals, ended, judge}
use Rattle.flow.specs.Records.{RightLength, records_of}
use Rattle.flow.specs.Order.{place_due}
use Rattle.flow.specs.Walking.{start, step}
use Rattle.flow.specs.Verdict.{Verdict, accepted, refused}
use Rattle.flow.specs.Verdict.{Refusal}
use Rattle.flow.specs.declared.answer.Totals.{Totals}
use Rattle.flow.specs.declared.order.Due.TheVariants.{OnlyR14}
use Rattle.flow.specs.declared.order.Place.{Place}
use Rattle.flow.specs.declared.walk.Walk.{Walk}
use Rattle.flow.proofs.Accepted.{accepted-not-refused, ended_so}
use Rattle.flow.proofs.Cut.{Whole, flatten-length, records_joined, joined_records}
use Rattle.flow.proofs.Dispositions.{accepted-records}
use Rattle.flow.proofs.Lengths.{length-said}
use Rattle.grammar.specs.Fault.{FirstFault}
use Rattle.grammar.specs.Grammar.{Typed, Parts, kinds_of, records_in, opening, disposition_code, bytes_of, disposition_count, total_cents, record_count, parts_totals, RightDispositions, AllEqual, RightParts, Grammar}
use Rattle.grammar.specs.Laws.{GrammarExact, RightOrFaulty}
use Rattle.grammar.specs.Rules.{KindRules, TotalRules, TrailerRules}
use Rattle.grammar.specs.Shape.{Disposition, Dispositions, last, more, InOrder, in_order}
use Rattle.grammar.proofs.AtPlace.{asks, RightAt}
use Rattle.grammar.proofs.ContextAfter.{FromStart}
use Rattle.grammar.proofs.Bytes.{typed_of, parts_joined}
use Rattle.grammar.proofs.Codes.{Agreeing, all-equal_exact}
use Rattle.grammar.proofs.Dispositions.{InShape, numbered_shape, codes_stand, dispositions_state, dispositions_exact}
use Rattle.grammar.proofs.FirstFault.{judge_from, judged, whole-records, ends_so, stops_so, complete_order, order_complete, first_fault_exact}
use Rattle.grammar.proofs.KindsOfFlow.{kind_through, Kindred, first_tells, all_kindred, all_through}
use Rattle.grammar.proofs.Order.{Allowed, allowed_before, allowed_after, order_runs}
use Rattle.grammar.proofs.Rules.{header_rules, trailer_rules, said_below}
use Rattle.grammar.proofs.Walked.{state_after, code_after, Walked, walked_append, walked_formed, formed_whole, state_append, state_place, Outcome, all_right, stops, outcome}
use Rattle.std.specs.Prelude.{Option, None}

-- records in the order of a flow are a header, dispositions and a trailer; of a kind that is handed in
pub record TakenApart (q : FlowKind) (rs : List Typed) : Type 0 where
  pub parts : Parts
  pub kind_so : parts.kind ≡ q
  pub same : rs ≡ typed_of parts
  pub some : 1 ≤ disposition_count parts
  pub shape : InShape parts.dispositions

cut_up : {ks : List RecordKind} → Dispositions ks → (ms : List Typed) → kinds_of ms ≡ ks → (ds : List (List Typed)) × (ms ≡ flatten ds) × (1 ≤ length ds) × InShape ds
unfolding flatten
cut_up (last d) ms e = (ms ∷ [], sym (append-nil ms), omega arith, (subst Disposition (sym e) d, tt))
cut_up (more {ks = ks} {ls = ls} d ds) ms e =
    let split = map_split (λ (r : Typed). r.kind) ms ks ls e in
    let rest = cut_up ds split.1 split.4 in
    (split.0 ∷ rest.0, split.2 ∙ ap (λ (l : List Typed). split.0 ++ l) rest.1, omega arith, (subst Disposition (sym split.3) d, rest.3))

of_kind : (r : Typed) {k : RecordKind} → r.kind ≡ k → r ≡ record { kind = k; bytes = r.bytes }
of_kind r e = λ i. record { kind = e i; bytes = r.bytes }

pub take_apart : (q : FlowKind) (rs : List Typed) → InOrder (kinds_of rs) → TakenApart q rs
take_apart q rs o = go rs (kinds_of rs) refl o
  where
    ends : (es : List Typed) → kinds_of es ≡ Ef ∷ [] → (e : List ℕ) × (es ≡ record { kind = Ef; bytes = e } ∷ [])
    ends [] s = absurd (nil≢cons s)
    ends (e ∷ []) s =
        let kind = of_kind e (head-eq_of_cons-eq s) in
        (e.bytes, ap (λ (r : Typed). r ∷ []) kind)
    ends (e ∷ x ∷ es) s = absurd (nil≢cons (sym (tail-eq_of_cons-eq s)))

    go : (rs : List Typed) (ks : List RecordKind) → kinds_of rs ≡ ks → InOrder ks → TakenApart q rs
    go [] ks e (in_order ds) = absurd (nil≢cons e)
    go (r ∷ rs) ks e (in_order {ks = ls} ds) =
        let split = map_split (λ (x : Typed). x.kind) rs ls (Ef ∷ []) (tail-eq_of_cons-eq e) in
        let middle = cut_up ds split.0 split.3 in
        let back = ends split.1 split.4 in
        let head = of_kind r (head-eq_of_cons-eq e) in
        let body : rs ≡ flatten middle.0 ++ (record { kind = Ef; bytes = back.0 } ∷ []) = split.2 ∙ cc (middle.1, back.1) in
        record {
          parts = record { kind = q; header = r.bytes; dispositions = middle.0; trailer = back.0 };
          kind_so = refl;
          same = cc;
          some = middle.2;
          shape = middle.3;
        }

-- and the other way round
pub in_shape : (ds : List (List Typed)) → 1 ≤ length ds → InShape ds → Dispositions (kinds_of (flatten ds))
unfolding flatten
in_shape [] some shape = absurd (omega arith)
in_shape (d ∷ []) some shape = subst (λ (l : List Typed). Dispositions (kinds_of l)) (sym (append-nil d)) (last shape.0)
in_shape (d ∷ x ∷ ds) some shape =
    subst Dispositions (sym (map-append (λ (r : Typed). r.kind) d (flatten (x ∷ ds)))) (more shape.0 (in_shape (x ∷ ds) (omega arith) shape.1))

pub parts-order : (p : Parts) → 1 ≤ disposition_count p → InShape p.dispositions → InOrder (kinds_of (typed_of p))
parts-order p some shape =
    subst (λ (ks : List RecordKind). InOrder (Im ∷ ks)) (sym (map-append (λ (r : Typed). r.kind) (flatten p.dispositions) (record { kind = Ef; bytes = p.trailer } ∷ []))) (in_order (in_shape p.dispositions some shape))

-- what the walk counts after the header, and after all of them
abbrev after_header : Walk
after_header = step start Im 0 []

-- their kind is the one that the walk has found
abbrev pub KindSaid : Parts → Type 0
KindSaid p = or_requests (state_after after_header (flatten p.dispositions)).kind ≡ p.kind

module _ (p : Parts) (some : 1 ≤ disposition_count p) (shape : InShape p.dispositions) where
  -- the trailer is asked with the exact counts
  trailer-counts :
      ((state_after after_header (flatten p.dispositions)).dispositions + 0 ≡ disposition_count p)
      × ((state_after after_header (flatten p.dispositions)).cents ≡ total_cents p)
      × (suc (1 + length (flatten p.dispositions)) ≡ record_count p)
  trailer-counts =
      let state = dispositions_state after_header p.dispositions shape in
      (omega arith, omega arith, omega (arith, flatten-count p.dispositions))

  trailer-said : (h : Header) (code : List ℕ) → KindSaid p → let w = state_after after_header (flatten p.dispositions) in
      Hold (checks Ef (asks h w code (suc (1 + length (flatten p.dispositions))) Ef) p.trailer) ↔ TrailerRules h (parts_totals p) p.trailer
  trailer-said h code kind =
      let w = state_after after_header (flatten p.dispositions) in
      let n = suc (1 + length (flatten p.dispositions)) in
      let rules = trailer_rules (asks h w code n Ef) p.trailer in
      let counts = trailer-counts in
      let same : TrailerRules h (record { kind = or_requests w.kind; dispositions = w.dispositions + 0; cents = w.cents; records = n }) p.trailer ≡ TrailerRules h (parts_totals p) p.trailer =
      λ i. TrailerRules h (record { kind = kind i; dispositions = counts.0 i; cents = counts.1 i; records = counts.2 i }) p.trailer in
      (λ hold. subst (λ (A : Type 0). A) same (rules.0 hold), λ said. rules.1 (subst (λ (A : Type 0). A) (sym same) said))

  -- it is known after the dispositions: all have one kind, and the first tells it
  one-kind-said : Kindred None (map opening p.dispositions) → KindSaid p → All (KindRules p.kind) (map opening p.dispositions)
  one-kind-said kindred kind = go p.dispositions some kindred (sym (ap or_requests (dispositions_state after_header p.dispositions shape).2) ∙ kind)
    where
      go : (ds : List (List Typed)) → 1 ≤ length ds → Kindred None (map opening ds) → or_requests (kind_through None (map opening ds)) ≡ p.kind → All (KindRules p.kind) (map opening ds)
      go [] none k e = absurd (omega arith)
      go (d ∷ ds) some k e = subst (λ (q : FlowKind). All (KindRules q) (map opening (d ∷ ds))) e (first_tells (opening d) (map opening ds) k)

  kind-known : All (KindRules p.kind) (map opening p.dispositions) → KindSaid p
  kind-known kinds = go p.dispositions some kinds (dispositions_state after_header p.dispositions shape).2
    where
      go : (ds : List (List Typed)) {q : Option FlowKind} → 1 ≤ length ds → All (KindRules p.kind) (map opening ds) → q ≡ kind_through None (map opening ds) → or_requests q ≡ p.kind
      go [] none k e = absurd (omega arith)
      go (d ∷ ds) some k e = ap or_requests (e ∙ all_through p.kind (opening d) (map opening ds) k)

  -- the walk over all the records, and the grammar
  pub parts_exact : (Walked (header_of p.header) start [] 0 (typed_of p) × KindSaid p) ↔ RightParts p
  parts_exact = (λ h. said h.0 h.1, λ r. (walked r, kind-known r.kinds))
    where
      h : Header
      h = header_of p.header

      ms : List Typed
      ms = flatten p.dispositions

      end : Typed
      end = record { kind = Ef; bytes = p.trailer }

      middle : Walked h after_header [] 1 ms ↔ (Allowed after_header.place (kinds_of ms) × RightDispositions h.abi 1 p.dispositions × (Agreeing [] (map disposition_code p.dispositions) × Kindred None (map opening p.dispositions)))
      middle = dispositions_exact h after_header [] 1 1 p.dispositions shape refl

      codes_exact : RightDispositions h.abi 1 p.dispositions → Agreeing [] (map disposition_code p.dispositions) ↔ AllEqual (map disposition_code p.dispositions)
      codes_exact each = all-equal_exact (map disposition_code p.dispositions) (codes_stand h.abi 1 p.dispositions each)

      parts : Walked h after_header [] 1 (ms ++ (end ∷ [])) ↔ (Walked h after_header [] 1 ms × Walked h (state_after after_header ms) (code_after [] ms) (1 + length ms) (end ∷ []))
      parts = walked_append h after_header [] 1 ms (end ∷ [])

      said : Walked h start [] 0 (typed_of p) → KindSaid p → RightParts p
      said w kind =
          let both = parts.0 w.1 in
          let within = middle.0 both.0 in
          let closing = both.1.0 in
          record {
            header_formed = w.0.formed;
            header_rules = (header_rules (asks h start [] 1 Im) p.header).0 w.0.keeps;
            some = some;
            each = within.1;
            codes = (codes_exact within.1).0 within.2.0;
            kinds = one-kind-said within.2.1 kind;
            trailer_formed = closing.formed;
            trailer_rules = (trailer-said h (code_after [] ms) kind).0 closing.keeps;
          }

      walked : RightParts p → Walked h start [] 0 (typed_of p)
      walked r =
          let allowed = subst (Allowed (place_due OnlyR14)) (map-append (λ (x : Typed). x.kind) ms (end ∷ [])) (order_runs (parts-order p some shape)).0.1 in
          let may = (subst (λ (q : Place). Allowed q (Ef ∷ [])) (sym (state_place after_header ms)) (allowed_after (place_due OnlyR14) (kinds_of ms) (Ef ∷ []) allowed)).0 in
          let heading : RightAt h start [] 1 Im p.header = record { may = inl refl; formed = r.header_formed; keeps = (header_rules (asks h start [] 1 Im) p.header).1 r.header_rules } in
          let closing : RightAt h (state_after after_header ms) (code_after [] ms) (suc (1 + length ms)) Ef p.trailer = record { may = may; formed = r.trailer_formed; keeps = (trailer-said h (code_after [] ms) (kind-known r.kinds)).1 r.trailer_rules } in
          let within = middle.1 (allowed_before (place_due OnlyR14) (kinds_of ms) (Ef ∷ []) allowed, r.each, ((codes_exact r.each).1 r.codes, all_kindred None p.kind (map opening p.dispositions) refl r.kinds)) in
          (heading, parts.1 (within, (closing, tt)))

  -- the totals after all of them
  -- the trailer changes nothing of the kind
  kind_at_end : (state_after start (typed_of p)).kind ≡ (state_after after_header (flatten p.dispositions)).kind
  kind_at_end = ap (λ (w : Walk). w.kind) (state_append after_header (flatten p.dispositions) (record { kind = Ef; bytes = p.trailer } ∷ []))

  all-counted : KindSaid p → walk_totals (state_after start (typed_of p)) (length (typed_of p)) ≡ parts_totals p
  all-counted kind =
      let end : List Typed = record { kind = Ef; bytes = p.trailer } ∷ [] in
      let same = state_append after_header (flatten p.dispositions) end in
      let count = ap (λ (w : Walk). w.dispositions) same in
      let cents = ap (λ (w : Walk). w.cents) same in
      let counts = trailer-counts in
      let dispositions : (state_after start (typed_of p)).dispositions ≡ disposition_count p = omega arith in
      let sum : (state_after start (typed_of p)).cents ≡ total_cents p = omega arith in
      let records : length (typed_of p) ≡ record_count p = omega (arith, length-append (flatten p.dispositions) end) in
      let said = ap or_requests kind_at_end ∙ kind in
      λ i. record { kind = said i; dispositions = dispositions i; cents = sum i; records = records i }

-- the header of a flow is its first 120 bytes
pub header_first : (p : Parts) (f : List ℕ) → bytes_of p ≡ f → length p.header ≡ 120 → take 120 f ≡ p.header
header_first p f e whole = ap (take 120) (sym e) ∙ take_at p.header _ 120 whole

-- from the answer to the grammar
module _ (f : List ℕ) (t : Totals) (sized : RightLength (length f)) where
  at_end : (rs : List Typed) → records_of f ≡ records_in rs → FromStart f rs → ended (state_after start rs) (length rs) ≡ accepted t → Grammar f t
  at_end rs same walked e =
      let told = ended_so (state_after start rs) (length rs) e in
      let apart = take_apart t.kind rs (complete_order f rs walked told.0) in
      let p = apart.parts in
      let bytes : bytes_of p ≡ f = sym (parts_joined p) ∙ ap (λ (l : List Typed). flatten (records_in l)) (sym apart.same) ∙ ap flatten (sym same) ∙ records_joined f (length f / 120) (omega arith) in
      let typed = subst (FromStart f) apart.same walked in
      let head = header_first p f bytes typed.0.formed.whole in
      let told-kind : or_requests (state_after start rs).kind ≡ t.kind = ap (λ (u : Totals). u.kind) told.1 in
      let kind = ap or_requests (sym (kind_at_end p apart.some apart.shape) ∙ ap (λ (l : List Typed). (state_after start l).kind) (sym apart.same)) ∙ told-kind ∙ sym apart.kind_so in
      let counts = all-counted p apart.some apart.shape kind in
      record {
        parts = p;
        bytes = bytes;
        right = (parts_exact p apart.some apart.shape).0 (subst (λ (l : List ℕ). Walked (header_of l) start [] 0 (typed_of p)) head typed, kind);
        totals = sym counts ∙ ap (λ (rs : List Typed). walk_totals (state_after start rs) (length rs)) (sym apart.same) ∙ told.1;
      }

  at_outcome : {recs : List (List ℕ)} → records_of f ≡ recs → Whole recs → Outcome (header_of (take 120 f)) start [] 0 recs → judge_from f recs ≡ accepted t → Grammar f t
  at_outcome same whole (all_right rs walked) e = at_end rs same walked (sym (ends_so ended f rs walked) ∙ e)
  at_outcome same whole (stops rs rec rest m q walked fault) e =
      let size = all_at (λ (l : List ℕ). length l ≡ 120) (records_in rs) rec rest whole in
      absurd (accepted-not-refused (sym (stops_so ended f rs walked rec rest m q size fault) ∙ e))

grammar_of : (f : List ℕ) (t : Totals) → judge f ≡ accepted t → Grammar f t
grammar_of f t e =
    let read = accepted-records f e in
    at_outcome f t (length-said (length f) read.0) refl (whole-records f) (outcome (header_of (take 120 f)) start [] 0 (records_of f) (whole-records f)) read.1

-- from the grammar to the answer
-- the trailer's digits bound what it counts
pub counts_below : (p : Parts) → RightParts p → (disposition_count p < count_limit) × (total_cents p < cents_limit) × (record_count p < count_limit)
counts_below p r =
    let t = p.trailer in
    let rules = r.trailer_rules in
    let size : (i w : ℕ) → i + w ≤ 120 → length (part i w t) ≡ w = λ i w fits. part_length i w t (omega (arith, r.trailer_formed.whole)) in (
      said_below 7 (disposition_count p) (field 46 52 t) (size 45 7 (omega arith)) rules.dispositions-said,
      total_below p.kind (size 52 15 (omega arith)) (size 67 15 (omega arith)) rules.cents_said,
      said_below 7 (record_count p) (field 83 89 t) (size 82 7 (omega arith)) rules.records-said,
    )
  where
    total_below : (q : FlowKind) → length (field 53 67 p.trailer) ≡ 15 → length (field 68 82 p.trailer) ≡ 15 → TotalRules q (total_cents p) p.trailer → total_cents p < cents_limit
    total_below Requests asked recalled said = said_below 15 (total_cents p) (field 53 67 p.trailer) asked said.0
    total_below Recalls asked recalled said = said_below 15 (total_cents p) (field 68 82 p.trailer) recalled said.1

module _ (f : List ℕ) (t : Totals) (g : Grammar f t) where
  pub grammar_shape : InShape g.parts.dispositions
  grammar_shape = numbered_shape (header_of g.parts.header).abi 1 g.parts.dispositions g.right.each

  pub grammar_walked : Walked (header_of g.parts.header) start [] 0 (typed_of g.parts)
  grammar_walked = ((parts_exact g.parts g.right.some grammar_shape).1 g.right).0

  pub grammar_whole : Whole (records_in (typed_of g.parts))
  grammar_whole = formed_whole (typed_of g.parts) (walked_formed (header_of g.parts.header) start [] 0 (typed_of g.parts) grammar_walked)

  pub grammar_bytes : flatten (records_in (typed_of g.parts)) ≡ f
  grammar_bytes = parts_joined g.parts ∙ g.bytes

  -- the records of the flow are those of its parts
  pub grammar_records : records_of f ≡ records_in (typed_of g.parts)
  grammar_records = ap records_of (sym grammar_bytes) ∙ joined_records (records_in (typed_of g.parts)) grammar_whole

  -- and are right from its front on
  pub grammar_start : FromStart f (typed_of g.parts)
  grammar_start = subst (λ (l : List ℕ). Walked (header_of l) start [] 0 (typed_of g.parts)) (sym (header_first g.parts f g.bytes g.right.header_formed.whole)) grammar_walked

  answer_of : judge f ≡ accepted t
  answer_of =
      let p = g.parts in
      let rs = typed_of p in
      let walked : FromStart f rs = grammar_start in
      let counts = all-counted p g.right.some grammar_shape (kind-known p g.right.some grammar_shape g.right.kinds) in
      let size : length f ≡ 120 * record_count p = ap (λ (l : List ℕ). length l) (sym grammar_bytes) ∙ flatten-length (records_in rs) grammar_whole ∙ ap (λ (m : ℕ). 120 * m) (length-map rs (λ (x : Typed). x.bytes) ∙ ap (λ (u : Totals). u.records) counts) in
      let few = (counts_below p g.right).2 in
      let sized : RightLength (length f) = (omega arith, omega arith, omega arith) in
      let last-due = order_complete f rs walked (parts-order p g.right.some grammar_shape) in
      judged f sized ∙ ap (judge_from f) grammar_records ∙ ends_so ended f rs walked ∙ rw last-due (ap accepted (counts ∙ g.totals))

pub grammar_exact : GrammarExact
grammar_exact f t = (grammar_of f t, answer_of f t)

pub right_or_faulty : RightOrFaulty
right_or_faulty f = (go (judge f) refl, λ both. accepted-not-refused (sym ((first_fault_exact f both.1.0).1 both.1.1) ∙ (grammar_exact f both.0.0).1 both.0.1))
  where
    go : (v : Verdict Totals) → judge f ≡ v → ((t : Totals) × Grammar f t) ⊎ ((x : Refusal) × FirstFault f x)
    go (accepted t) e = inl (t, (grammar_exact f t).0 e)
    go (refused x) e = inr (x, (first_fault_exact f x).0 e)
