-- The walk over the records of a flow: it goes on after right records, and stops at a fault. Assumes nothing.
use Prim.Native.Nat.{ℕ, suc, ◌+◌}
use mathlib.Core.Bool.{Bool, cond, ◌&&◌}
use mathlib.Core.List.{List, [], ◌∷◌, ◌++◌}
use mathlib.Core.Logic.{◌↔◌, inl, inr}
use mathlib.Core.Path.{◌≡◌, refl, sym, ◌∙◌, ap, subst}
use native.Mathlib.Omega.{arith}
use lib.ListN.{length}
use Rattle.sequences.specs.All.{All}
use Rattle.fields.specs.Digits.{number}
use Rattle.records.specs.Amount.{amount_in}
use Rattle.records.specs.Company.{company_in, is_none}
use Rattle.records.specs.Context.{Header}
use Rattle.records.specs.FlowKinds.{kind_in, first_known}
use Rattle.records.specs.Judge.{asked}
use Rattle.records.specs.Kinds.{is_opening, opens, opened}
use Rattle.records.proofs.ByKind.{type_tested, opens-type}
use Rattle.flow.specs.Judge.{walk_from}
use Rattle.flow.specs.Walking.{kind_after, step, company_after}
use Rattle.flow.specs.ExactTotals.{opening_count, amount_sum, kind_from}
use Rattle.flow.specs.Verdict.{Verdict, refused, refusal}
use Rattle.flow.specs.declared.answer.Totals.{Totals}
use Rattle.flow.specs.declared.walk.Walk.{Walk}
use Rattle.flow.proofs.Cut.{Whole}
use Rattle.grammar.specs.Fault.{company_of}
use Rattle.grammar.specs.Grammar.{Typed, kinds_of, records_in}
use Rattle.grammar.specs.Rules.{Formed}
use Rattle.grammar.proofs.AtPlace.{RightAt, FaultAt, Judgement, right_judged, fault_judged, judgement}
use Rattle.grammar.proofs.Codes.{code_stands, first_found, none_later, found_stays}
use Rattle.grammar.proofs.Order.{place_through, Allowed}
use Rattle.records.specs.declared.flow_kind.FlowKind.{FlowKind}
use Rattle.std.specs.Prelude.{Option}

-- the state, and the company code, after records
abbrev pub state_after : Walk → List Typed → Walk
state_after w [] = w
state_after w (r ∷ rs) = state_after (step w r.kind (asked r.kind r.bytes) r.bytes) rs

abbrev pub code_after : List ℕ → List Typed → List ℕ
code_after code [] = code
code_after code (r ∷ rs) = code_after (company_after code r.kind r.bytes) rs

-- records that are right one after the other, from a state on that has i records before it
abbrev pub Walked : Header → Walk → List ℕ → ℕ → List Typed → Type 0
Walked h w code i [] = Unit
Walked h w code i (r ∷ rs) =
    RightAt h w code (suc i) r.kind r.bytes × Walked h (step w r.kind (asked r.kind r.bytes) r.bytes) (company_after code r.kind r.bytes) (suc i) rs

-- records and then others
pub walked_append :
    (h : Header) (w : Walk) (code : List ℕ) (i : ℕ) (bs cs : List Typed)
    → Walked h w code i (bs ++ cs) ↔ (Walked h w code i bs × Walked h (state_after w bs) (code_after code bs) (i + length bs) cs)
walked_append h w code i [] cs =
    let same : i ≡ i + 0 = omega arith in
    (λ walked. (tt, subst (λ (n : ℕ). Walked h w code n cs) same walked), λ both. subst (λ (n : ℕ). Walked h w code n cs) (sym same) both.1)
walked_append h w code i (b ∷ bs) cs =
    let w' = step w b.kind (asked b.kind b.bytes) b.bytes in
    let code' = company_after code b.kind b.bytes in
    let rest = walked_append h w' code' (suc i) bs cs in
    let same : suc i + length bs ≡ i + suc (length bs) = omega arith in (
      λ walked.
          let both = rest.0 walked.1 in
          ((walked.0, both.0), subst (λ (n : ℕ). Walked h (state_after w' bs) (code_after code' bs) n cs) same both.1),
      λ both. (both.0.0, rest.1 (both.0.1, subst (λ (n : ℕ). Walked h (state_after w' bs) (code_after code' bs) n cs) (sym same) both.1)),
    )

pub state_append : (w : Walk) (bs cs : List Typed) → state_after w (bs ++ cs) ≡ state_after (state_after w bs) cs
state_append w [] cs = refl
state_append w (b ∷ bs) cs = state_append (step w b.kind (asked b.kind b.bytes) b.bytes) bs cs

-- each was permitted at its place
pub walked_allowed : (h : Header) (w : Walk) (code : List ℕ) (i : ℕ) (rs : List Typed) → Walked h w code i rs → Allowed w.place (kinds_of rs)
walked_allowed h w code i [] r = tt
walked_allowed h w code i (x ∷ rs) r = (r.0.may, walked_allowed h (step w x.kind (asked x.kind x.bytes) x.bytes) (company_after code x.kind x.bytes) (suc i) rs r.1)

-- and has the form of its kind
abbrev pub AllFormed : List Typed → Type 0
AllFormed rs = All (λ (r : Typed). Formed r.kind r.bytes) rs

pub walked_formed : (h : Header) (w : Walk) (code : List ℕ) (i : ℕ) (rs : List Typed) → Walked h w code i rs → AllFormed rs
walked_formed h w code i [] r = tt
walked_formed h w code i (x ∷ rs) r = (r.0.formed, walked_formed h (step w x.kind (asked x.kind x.bytes) x.bytes) (company_after code x.kind x.bytes) (suc i) rs r.1)

pub formed_whole : (rs : List Typed) → AllFormed rs → Whole (records_in rs)
formed_whole [] formed = tt
formed_whole (r ∷ rs) formed = (formed.0.whole, formed_whole rs formed.1)

pub state_place : (w : Walk) (rs : List Typed) → (state_after w rs).place ≡ place_through w.place (kinds_of rs)
state_place w [] = refl
state_place w (r ∷ rs) = state_place (step w r.kind (asked r.kind r.bytes) r.bytes) rs

-- the walk goes on after them
pub walk_from_after :
    (end : Walk → ℕ → Verdict Totals) (h : Header) (w : Walk) (code : List ℕ) (i : ℕ) (rs : List Typed) (rest : List (List ℕ)) → Walked h w code i rs
    → walk_from end h w code i (records_in rs ++ rest) ≡ walk_from end h (state_after w rs) (code_after code rs) (i + length rs) rest
unfolding walk_from
walk_from_after end h w code i [] rest r = let same : i ≡ i + 0 = omega arith in ap (λ (n : ℕ). walk_from end h w code n rest) same
walk_from_after end h w code i (x ∷ rs) rest r =
    let k = x.kind in
    let w' = step w k (asked k x.bytes) x.bytes in
    let code' = company_after code k x.bytes in
    let same : suc i + length rs ≡ i + suc (length rs) = omega arith in
    let found = right_judged h w code (suc i) x.bytes r.0.formed.whole k r.0 in
    rw found (walk_from_after end h w' code' (suc i) rs rest r.1 ∙ ap (λ (n : ℕ). walk_from end h (state_after w' rs) (code_after code' rs) n rest) same)

-- and stops at a fault
pub walk_from_stops :
    (end : Walk → ℕ → Verdict Totals) (h : Header) (w : Walk) (code : List ℕ) (i : ℕ) (rec : List ℕ) (rest : List (List ℕ)) (m p : ℕ) → length rec ≡ 120
    → FaultAt h w code (suc i) rec m p → walk_from end h w code i (rec ∷ rest) ≡ refused (refusal m (suc i) p)
unfolding walk_from
walk_from_stops end h w code i rec rest m p whole fault = rw (fault_judged h w code (suc i) rec whole m p fault)

-- all of the records are right, or those up to a fault
pub data Outcome (h : Header) (w : Walk) (code : List ℕ) (i : ℕ) : List (List ℕ) → Type 0 where
  all_right : (rs : List Typed) → Walked h w code i rs → Outcome h w code i (records_in rs)
  stops :
      (rs : List Typed) (rec : List ℕ) (rest : List (List ℕ)) (m p : ℕ) → Walked h w code i rs
      → FaultAt h (state_after w rs) (code_after code rs) (suc (i + length rs)) rec m p → Outcome h w code i (records_in rs ++ (rec ∷ rest))

one_on :
    (h : Header) (w : Walk) (code : List ℕ) (i : ℕ) (r : Typed) {recs : List (List ℕ)} → RightAt h w code (suc i) r.kind r.bytes
    → Outcome h (step w r.kind (asked r.kind r.bytes) r.bytes) (company_after code r.kind r.bytes) (suc i) recs → Outcome h w code i (r.bytes ∷ recs)
one_on h w code i r right-at (all_right rs walked) = all_right (r ∷ rs) (right-at, walked)
one_on h w code i r right-at (stops rs rec rest m p walked fault) =
    let same : suc (suc i + length rs) ≡ suc (i + suc (length rs)) = omega arith in
    stops (r ∷ rs) rec rest m p (right-at, walked) (subst (λ (n : ℕ). FaultAt h (state_after w (r ∷ rs)) (code_after code (r ∷ rs)) n rec m p) same fault)

pub outcome : (h : Header) (w : Walk) (code : List ℕ) (i : ℕ) (recs : List (List ℕ)) → Whole recs → Outcome h w code i recs
outcome h w code i [] whole = all_right [] tt
outcome h w code i (rec ∷ recs) whole =
    go (λ w' code'. outcome h w' code' (suc i) recs whole.1) (judgement h w code (suc i) rec whole.0)
  where
    go : ((w' : Walk) (code' : List ℕ) → Outcome h w' code' (suc i) recs) → Judgement h w code (suc i) rec → Outcome h w code i (rec ∷ recs)
    go rest (inl o) = one_on h w code i (record { kind = o.0; bytes = rec }) o.1 (rest (step w o.0 (asked o.0 rec) rec) (company_after code o.0 rec))
    go rest (inr o) =
        let same : suc i ≡ suc (i + 0) = omega arith in
        stops [] rec recs o.0 o.1 tt (subst (λ (n : ℕ). FaultAt h w code n rec o.0 o.1) same o.2)

-- what the walk carries after records is what they say themselves
pub state_counts :
    (w : Walk) (code : List ℕ) (rs : List Typed) → AllFormed rs
    → ((state_after w rs).dispositions ≡ w.dispositions + opening_count (records_in rs)) × ((state_after w rs).cents ≡ w.cents + amount_sum (records_in rs)) × (code_after code rs ≡ first_found code (company_of (records_in rs)))
    × ((state_after w rs).kind ≡ kind_from w.kind (records_in rs))
unfolding opening_count amount_sum company_of kind_from
state_counts w code [] formed = (omega arith, omega arith, sym (none_later code), refl)
state_counts w code (r ∷ rs) formed =
    let k = r.kind in
    let rec = r.bytes in
    let opens_so : opens k ≡ is_opening rec = opens-type k rec (type_tested k rec formed.0.type) in
    let rest = state_counts (step w k (asked k rec) rec) (company_after code k rec) rs formed.1 in
    let count : opened k ≡ cond (is_opening rec) 1 0 = ap (λ (b : Bool). cond b 1 0) opens_so in
    let cents : asked k rec ≡ cond (is_opening rec) (number (amount_in rec)) 0 = ap (λ (b : Bool). cond b (number (amount_in rec)) 0) opens_so in
    let company : company_after code k rec ≡ cond (is_opening rec && is_none code) (company_in rec) code = ap (λ (b : Bool). cond (b && is_none code) (company_in rec) code) opens_so in
    let later : List ℕ = company_of (records_in rs) in
    let kind : kind_after w.kind k rec ≡ cond (is_opening rec) (first_known w.kind (kind_in rec)) w.kind = ap (λ (b : Bool). cond b (first_known w.kind (kind_in rec)) w.kind) opens_so in
    (omega arith, omega arith, rest.2 ∙ ap (λ (c : List ℕ). first_found c later) company ∙ found_stays code (company_in rec) later (is_opening rec) (code_stands rec formed.0.whole), rest.3 ∙ ap (λ (q : Option FlowKind). kind_from q (records_in rs)) kind)
