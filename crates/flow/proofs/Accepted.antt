-- What an accepted flow is answered, and which flows are refused by 1. Assumes nothing.
use Prim.Native.Nat.{ℕ, suc, ◌+◌, ◌*◌, ◌/◌, ◌%◌}
use mathlib.Core.Bool.{Bool, true, false, cond, true≢false}
use mathlib.Core.List.{List, [], ◌∷◌}
use mathlib.Core.Path.{◌≡◌, refl, sym, ◌∙◌, ap}
use native.Mathlib.Omega.{arith}
use lib.Dec.{eqb}
use lib.ListN.{length, take}
use borrow.Author.Tests.{le-leb, eq-eqb}
use Rattle.fields.specs.Digits.{number}
use Rattle.records.specs.Amount.{amount_in}
use Rattle.records.specs.Bytes.{bad_byte}
use Rattle.records.specs.Context.{Header, context, header_of}
use Rattle.records.specs.FlowKinds.{kind_in, or_requests, first_known}
use Rattle.records.specs.RecordVerdict.{RecordVerdict, right}
use Rattle.records.specs.RecordVerdict.{refused as RecordVerdict-refused}
use Rattle.records.specs.Kinds.{is_opening, opened}
use Rattle.records.specs.declared.kind.RecordKind.{RecordKind}
use Rattle.records.proofs.ByKind.{right-asked, opens-type}
use Rattle.records.proofs.Numbers.{one_for_length}
use Rattle.flow.specs.Judge.{unless_fault, walk_totals, ended, walk_from, judge}
use Rattle.flow.specs.Records.{RightLength, is_length, records_of, most_bytes}
use Rattle.flow.specs.Laws.{LengthRefused, Ceiling, AcceptedExact, AnswerDetermined, CallRefused, VerdictDetermined, FoundDetermined, FoundWithTotalsDetermined}
use Rattle.flow.specs.Order.{permitted, is_due, among}
use Rattle.flow.specs.Walking.{start, counts_at, kind_after, step, company_after, judge_typed, judge_record}
use Rattle.flow.specs.ExactTotals.{opening_count, amount_sum, kind_from, kind_of}
use Rattle.flow.specs.Verdict.{Verdict, accepted, refused, refusal, of_call}
use Rattle.flow.specs.Verdict.{Refusal}
use Rattle.flow.specs.declared.answer.Totals.{Totals}
use Rattle.flow.specs.declared.walk.Walk.{Walk}
use Rattle.flow.proofs.Cut.{cut-count, Whole, cut-whole}
use Rattle.flow.proofs.Exact.{right_typed}
use Rattle.flow.proofs.Lengths.{length-said}
use Rattle.records.specs.declared.flow_kind.FlowKind.{FlowKind}
use Rattle.std.specs.Prelude.{Option, Some, None}
use Rattle.std.specs.Prelude.{Ok, Err}
use Rattle.refusals.proofs.Numbers.{number_told}
use Rattle.flow.specs.declared.answer.Refusal.{Refusal as Code-Refusal}
use Rattle.flow.specs.declared.location.Location.{Location}
use Rattle.flow.specs.declared.location.WithTotals.{WithTotals}
use Rattle.flow.specs.Verdict.{on_paper}

-- an acceptance is no refusal; and what was accepted, or refused, tells itself
pub accepted-not-refused : {A : Type 0} {a : A} {x : Refusal} → refused x ≡ accepted a → ⊥
accepted-not-refused e = let z : ◌≡◌ {A = ℕ} 0 1 = cc in omega arith

pub accepted-same : {A : Type 0} {a b : A} → accepted a ≡ accepted b → a ≡ b
accepted-same e = cc

pub refused-same : {A : Type 0} {x y : Refusal} → ◌≡◌ {A = Verdict A} (refused x) (refused y) → x ≡ y
refused-same e = cc

-- after the last record of an accepted flow nothing is due, and the answer is the state's
pub ended_so : (w : Walk) (i : ℕ) {t : Totals} → ended w i ≡ accepted t → (is_due (permitted w.place.due) ≡ false) × (walk_totals w i ≡ t)
ended_so w i {t} = go (is_due (permitted w.place.due))
  where
    go : (b : Bool) → cond b (refused (refusal 4 (suc i) 0)) (accepted (walk_totals w i)) ≡ accepted t → (b ≡ false) × (walk_totals w i ≡ t)
    go true e = absurd (accepted-not-refused e)
    go false e = (refl, accepted-same e)

-- what a right record adds to the counts, by its type alone
adds :
    (header : Header) (w : Walk) (company : List ℕ) (n : ℕ) (rec : List ℕ) (k : RecordKind) (c : ℕ)
    → judge_record header w company n rec ≡ right k c → (opened k ≡ cond (is_opening rec) 1 0) × (c ≡ cond (is_opening rec) (number (amount_in rec)) 0)
adds header w company n rec k c e =
    let kept = right_typed header w company n rec k c e in
    let kind = opens-type k rec kept.0 in
    let cents = (right-asked k k (context header company w.kind (counts_at w n k)) rec c kept.1).1 in
    (rw kind, cents ∙ rw kind)

-- and what it tells of the kind of flow
decides :
    (header : Header) (w : Walk) (company : List ℕ) (n : ℕ) (rec : List ℕ) (k : RecordKind) (c : ℕ)
    → judge_record header w company n rec ≡ right k c → kind_after w.kind k rec ≡ cond (is_opening rec) (first_known w.kind (kind_in rec)) w.kind
decides header w company n rec k c e = rw (opens-type k rec (right_typed header w company n rec k c e).0)

-- after a state, the counts are its own and those of the records to come
pub record Adding (w : Walk) (i : ℕ) (recs : List (List ℕ)) (t : Totals) : Type 0 where
  pub dispositions : t.dispositions ≡ w.dispositions + opening_count recs
  pub cents : t.cents ≡ w.cents + amount_sum recs
  pub records : t.records ≡ i + length recs
  pub kind : t.kind ≡ or_requests (kind_from w.kind recs)

exact_from :
    (header : Header) (w : Walk) (company : List ℕ) (i : ℕ) (recs : List (List ℕ)) (t : Totals) → walk_from ended header w company i recs ≡ accepted t → Adding w i recs t
unfolding walk_from opening_count amount_sum kind_from
exact_from header w company i [] t = λ e.
    let told = (ended_so w i e).1 in
    record {
      dispositions = sym (ap (λ (u : Totals). u.dispositions) told) ∙ omega arith;
      cents = sym (ap (λ (u : Totals). u.cents) told) ∙ omega arith;
      records = sym (ap (λ (u : Totals). u.records) told) ∙ omega arith;
      kind = sym (ap (λ (u : Totals). u.kind) told);
    }
exact_from header w company i (rec ∷ recs) t = next (judge_record header w company (suc i) rec) refl (λ k a. exact_from header (step w k a rec) (company_after company k rec) (suc i) recs t)
  where
    next :
        (x : RecordVerdict) → judge_record header w company (suc i) rec ≡ x
        → ((k : RecordKind) (a : ℕ) → walk_from ended header (step w k a rec) (company_after company k rec) (suc i) recs ≡ accepted t → Adding (step w k a rec) (suc i) recs t)
        → unless_fault (suc i) x (λ k a. walk_from ended header (step w k a rec) (company_after company k rec) (suc i) recs) ≡ accepted t → Adding w i (rec ∷ recs) t
    next (right k a) found rest e =
        let more = adds header w company (suc i) rec k a found in
        let counts = rest k a e in
        let dispositions = counts.dispositions in
        let cents = counts.cents in
        let records = counts.records in
        let kind = ap (λ (q : Option FlowKind). or_requests (kind_from q recs)) (decides header w company (suc i) rec k a found) in
        record { dispositions = omega arith; cents = omega arith; records = omega arith; kind = counts.kind ∙ kind }
    next (RecordVerdict-refused m p) found rest e = absurd (accepted-not-refused e)

pub accepted_exact : AcceptedExact
unfolding judge
accepted_exact f t = go_on (is_length (length f)) refl
  where
    go_on : (b : Bool) → is_length (length f) ≡ b → cond b (walk_from ended (header_of (take 120 f)) start [] 0 (records_of f)) (refused (of_call 1)) ≡ accepted t → (t.dispositions ≡ opening_count (records_of f)) × (t.cents ≡ amount_sum (records_of f)) × (t.records * 120 ≡ length f) × (t.kind ≡ kind_of (records_of f))
    go_on true h e =
        let exact = exact_from (header_of (take 120 f)) start [] 0 (records_of f) t e in
        let said = length-said (length f) h in
        let dispositions = exact.dispositions in
        let cents = exact.cents in
        let records = exact.records in
        (omega arith, omega arith, omega (arith, cut-count (length f / 120) f), exact.kind)
    go_on false h e = absurd (accepted-not-refused e)

-- a record of 120 bytes is not refused by 1
record_not_one : (header : Header) (w : Walk) (company : List ℕ) (n : ℕ) (rec : List ℕ) (p : ℕ) → length rec ≡ 120 → ¬ (judge_record header w company n rec ≡ RecordVerdict-refused 1 p)
unfolding judge_record judge_typed
record_not_one header w company n rec p whole e = bytes (eqb (bad_byte rec) 0) (among (permitted w.place.due) rec) (rw (eq-eqb (length rec) 120 whole) at e)
  where
    bytes : (b : Bool) (x : Option RecordKind) → ¬ (cond b (judge_typed header w company n rec x) (RecordVerdict-refused 2 (bad_byte rec)) ≡ RecordVerdict-refused 1 p)
    bytes true None x = let z : ◌≡◌ {A = ℕ} 3 1 = cc in omega arith
    bytes true (Some k) x = ((one_for_length k (context header company w.kind (counts_at w n k)) rec p).0 x).1 whole
    bytes false found x = let z : ◌≡◌ {A = ℕ} 2 1 = cc in omega arith

-- so of whole records no refusal is by 1
refused_later : (header : Header) (w : Walk) (company : List ℕ) (i : ℕ) (recs : List (List ℕ)) (r p : ℕ) → Whole recs → ¬ (walk_from ended header w company i recs ≡ refused (refusal 1 r p))
unfolding walk_from
refused_later header w company i [] r p whole = end (is_due (permitted w.place.due))
  where
    end : (b : Bool) → ¬ (cond b (refused (refusal 4 (suc i) 0)) (accepted (walk_totals w i)) ≡ refused (refusal 1 r p))
    end true x = let z : ◌≡◌ {A = ℕ} 4 1 = ap (λ (y : Refusal). y.number) (refused-same x) in omega arith
    end false x = accepted-not-refused (sym x)
refused_later header w company i (rec ∷ recs) r p whole =
    next (judge_record header w company (suc i) rec) refl (λ k a. refused_later header (step w k a rec) (company_after company k rec) (suc i) recs r p whole.1)
  where
    next :
        (x : RecordVerdict) → judge_record header w company (suc i) rec ≡ x → ((k : RecordKind) (a : ℕ) → ¬ (walk_from ended header (step w k a rec) (company_after company k rec) (suc i) recs ≡ refused (refusal 1 r p)))
        → ¬ (unless_fault (suc i) x (λ k a. walk_from ended header (step w k a rec) (company_after company k rec) (suc i) recs) ≡ refused (refusal 1 r p))
    next (right k a) found rest x = rest k a x
    next (RecordVerdict-refused m q) found rest x =
        let one : m ≡ 1 = ap (λ (y : Refusal). y.number) (refused-same x) in
        record_not_one header w company (suc i) rec q whole.0 (found ∙ ap (λ (e : ℕ). RecordVerdict-refused e q) one)

pub length_tested : (n : ℕ) → RightLength n → is_length n ≡ true
length_tested n h = rw (le-leb 1 n h.0, eq-eqb (n % 120) 0 h.1, le-leb n most_bytes h.2)

pub length-refused : LengthRefused
unfolding judge
length-refused f r p = (λ e. given (is_length (length f)) refl e, λ h. wrong (is_length (length f)) refl h)
  where
    all : Verdict Totals
    all = walk_from ended (header_of (take 120 f)) start [] 0 (records_of f)

    given : (b : Bool) → is_length (length f) ≡ b → cond b all (refused (of_call 1)) ≡ refused (refusal 1 r p) → (r ≡ 0) × (p ≡ 0) × ¬ RightLength (length f)
    given true t e = absurd (refused_later (header_of (take 120 f)) start [] 0 (records_of f) r p (cut-whole (length f / 120) f (omega arith)) e)
    given false t e = (sym (ap (λ (y : Refusal). y.«record») (refused-same e)), sym (ap (λ (y : Refusal). y.position) (refused-same e)), λ h. true≢false (sym (length_tested (length f) h) ∙ t))

    wrong : (b : Bool) → is_length (length f) ≡ b → (r ≡ 0) × (p ≡ 0) × ¬ RightLength (length f) → cond b all (refused (of_call 1)) ≡ refused (refusal 1 r p)
    wrong true t h = absurd (h.2 (length-said (length f) t))
    wrong false t h = rw (h.0, h.1)

pub ceiling : Ceiling
ceiling f h = (length-refused f 0 0).1 (refl, refl, λ k. omega arith)

pub call_refused : CallRefused
call_refused r = refl

-- what an answer stands for determines it
paper_told : (x y : Code-Refusal) → on_paper x ≡ on_paper y → x ≡ y
paper_told x y e = λ i. record { reason = number_told x.reason y.reason (ap (λ (r : Refusal). r.number) e) i; «record» = (e i).«record»; position = (e i).position }

pub verdict_determined : VerdictDetermined
verdict_determined A (Ok t) (Ok u) e = ap Ok (accepted-same e)
verdict_determined A (Ok t) (Err x) e = absurd (accepted-not-refused (sym e))
verdict_determined A (Err x) (Ok t) e = absurd (accepted-not-refused e)
verdict_determined A (Err x) (Err y) e = ap Err (paper_told x y (refused-same e))

pub answer_determined : AnswerDetermined
answer_determined = verdict_determined Totals

pub found_determined : FoundDetermined
found_determined = verdict_determined Location

pub found_with_totals_determined : FoundWithTotalsDetermined
found_with_totals_determined = verdict_determined WithTotals
