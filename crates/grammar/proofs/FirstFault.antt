-- A flow is refused exactly by its first fault. Assumes nothing.
use Prim.Native.Nat.{ℕ, suc, ◌+◌, ◌/◌}
use mathlib.Core.Bool.{Bool, true, false, cond, true≢false}
use mathlib.Core.List.{List, [], ◌∷◌, ◌++◌, append-nil}
use mathlib.Core.Path.{◌≡◌, refl, sym, ◌∙◌, ap, subst}
use native.Mathlib.Omega.{arith}
use lib.ListN.{length, take, length-map}
use Rattle.sequences.proofs.All.{all_at, all-before}
use Rattle.records.specs.Context.{header_of}
use Rattle.records.specs.declared.kind.RecordKind.{RecordKind}
use Rattle.flow.specs.Judge.{walk_totals, ended, walk_from, judge}
use Rattle.flow.specs.Records.{RightLength, is_length, records_of}
use Rattle.flow.specs.Order.{permitted, is_due, place_due}
use Rattle.flow.specs.Walking.{start}
use Rattle.flow.specs.Verdict.{Verdict, accepted, refused, refusal, of_call}
use Rattle.flow.specs.Verdict.{Refusal}
use Rattle.flow.specs.declared.answer.Totals.{Totals}
use Rattle.flow.specs.declared.order.Due.TheVariants.{OnlyIm}
use Rattle.flow.specs.declared.order.Place.{Place}
use Rattle.flow.specs.declared.walk.Walk.{Walk}
use Rattle.flow.proofs.Accepted.{accepted-not-refused, refused-same, length_tested, length-refused}
use Rattle.flow.proofs.Cut.{Whole, cut-whole}
use Rattle.flow.proofs.Exact.{due-nothing}
use Rattle.flow.proofs.Lengths.{length-said}
use Rattle.grammar.specs.Fault.{HaveKinds, EachRight, FaultAfter, FirstFault, wrong_length, in_record, still_due}
use Rattle.grammar.specs.Grammar.{Typed, kinds_of, records_in}
use Rattle.grammar.specs.Laws.{FirstFaultExact}
use Rattle.grammar.specs.Shape.{InOrder}
use Rattle.grammar.proofs.ContextAfter.{have-kinds, FromStart, formed_so, FaultNext, same-kinds, fault_after, fault_next, walked_of, each_of}
use Rattle.grammar.proofs.Order.{order_sound, order_runs}
use Rattle.grammar.proofs.Walked.{state_after, code_after, walked_allowed, state_place, walk_from_after, walk_from_stops, Outcome, all_right, stops, outcome}

-- the walk over records with the header of the flow f, and `end` after the last
abbrev pub walk_over : (Walk → ℕ → Verdict Totals) → List ℕ → List (List ℕ) → Verdict Totals
walk_over end f recs = walk_from end (header_of (take 120 f)) start [] 0 recs

abbrev pub judge_from : List ℕ → List (List ℕ) → Verdict Totals
judge_from f recs = walk_over ended f recs

pub judged : (f : List ℕ) → RightLength (length f) → judge f ≡ judge_from f (records_of f)
unfolding judge
judged f sized = rw (length_tested (length f) sized)

pub whole-records : (f : List ℕ) → Whole (records_of f)
whole-records f = cut-whole (length f / 120) f (omega arith)

-- after right records the walk ends, or stops at a fault
module _ (end : Walk → ℕ → Verdict Totals) (f : List ℕ) (rs : List Typed) (walked : FromStart f rs) where
  pub ends_so : walk_over end f (records_in rs) ≡ end (state_after start rs) (length rs)
  unfolding walk_from
  ends_so =
      let same : 0 + length rs ≡ length rs = omega arith in
      ap (walk_over end f) (sym (append-nil (records_in rs))) ∙ walk_from_after end (header_of (take 120 f)) start [] 0 rs [] walked ∙ ap (end (state_after start rs)) same

  pub stops_so : (rec : List ℕ) (rest : List (List ℕ)) (m p : ℕ) → length rec ≡ 120 → FaultNext f rs rec m p → walk_over end f (records_in rs ++ (rec ∷ rest)) ≡ refused (refusal m (suc (length (records_in rs))) p)
  stops_so rec rest m p whole fault =
      let same : suc (0 + length rs) ≡ suc (length (records_in rs)) = omega (arith, length-map rs (λ (r : Typed). r.bytes)) in
      walk_from_after end (header_of (take 120 f)) start [] 0 rs (rec ∷ rest) walked
      ∙ walk_from_stops end (header_of (take 120 f)) (state_after start rs) (code_after [] rs) (0 + length rs) rec rest m p whole fault
      ∙ ap (λ (n : ℕ). refused (refusal m n p)) same

-- a record is due exactly where the records are not all of a flow in order
module _ (f : List ℕ) (rs : List Typed) (walked : FromStart f rs) where
  pub complete_order : is_due (permitted (state_after start rs).place.due) ≡ false → InOrder (kinds_of rs)
  complete_order e =
      let due = ap (λ (p : Place). p.due) (sym (state_place start rs)) ∙ due-nothing (state_after start rs).place.due e in
      order_sound (place_due OnlyIm) (kinds_of rs) (walked_allowed (header_of (take 120 f)) start [] 0 rs walked) due

  pub order_complete : InOrder (kinds_of rs) → is_due (permitted (state_after start rs).place.due) ≡ false
  order_complete o = ap (λ (p : Place). is_due (permitted p.due)) (state_place start rs ∙ (order_runs o).1)

-- from the refusal to its fault
renamed : (f : List ℕ) {x y : Refusal} → ◌≡◌ {A = Verdict Totals} (refused x) (refused y) → FirstFault f x → FirstFault f y
renamed f e fault = subst (FirstFault f) (refused-same e) fault

module _ (f : List ℕ) (x : Refusal) (sized : RightLength (length f)) where
  at_end : (rs : List Typed) → records_of f ≡ records_in rs → FromStart f rs → (b : Bool) → is_due (permitted (state_after start rs).place.due) ≡ b → cond b (refused (refusal 4 (suc (length rs)) 0)) (accepted (walk_totals (state_after start rs) (length rs))) ≡ refused x → FirstFault f x
  at_end rs same walked false t e = absurd (accepted-not-refused (sym e))
  at_end rs same walked true t e =
      let each : EachRight f (records_of f) = subst (EachRight f) (sym same) (each_of f rs walked) in
      let count : suc (length (records_of f)) ≡ suc (length rs) = ap (λ (l : List (List ℕ)). suc (length l)) same ∙ ap suc (length-map rs (λ (x : Typed). x.bytes)) in
      let none : (ks : List RecordKind) → HaveKinds ks (records_of f) → ¬ InOrder ks = λ ks have o.
      true≢false (sym t ∙ order_complete f rs walked (subst InOrder (same-kinds f rs walked ks (subst (HaveKinds ks) same have)) o)) in
      renamed f (ap (λ (n : ℕ). refused (refusal 4 n 0)) count ∙ e) (still_due sized each none)

  at_outcome : {recs : List (List ℕ)} → records_of f ≡ recs → Whole recs → Outcome (header_of (take 120 f)) start [] 0 recs → judge_from f recs ≡ refused x → FirstFault f x
  at_outcome same whole (all_right rs walked) e =
      at_end rs same walked (is_due (permitted (state_after start rs).place.due)) refl (sym (ends_so ended f rs walked) ∙ e)
  at_outcome same whole (stops rs rec rest m q walked fault) e =
      let size = all_at (λ (l : List ℕ). length l ≡ 120) (records_in rs) rec rest whole in
      renamed f (sym (stops_so ended f rs walked rec rest m q size fault) ∙ e)
      (in_record (records_in rs) rec rest m q sized same (each_of f rs walked) (fault_after f rs walked rec m q fault))

fault_found : (f : List ℕ) (x : Refusal) → judge f ≡ refused x → FirstFault f x
unfolding judge
fault_found f x = by_length (is_length (length f)) refl
  where
    by_length : (b : Bool) → is_length (length f) ≡ b → cond b (judge_from f (records_of f)) (refused (of_call 1)) ≡ refused x → FirstFault f x
    by_length false t e = renamed f e (wrong_length (λ sized. true≢false (sym (length_tested (length f) sized) ∙ t)))
    by_length true t e = at_outcome f x (length-said (length f) t) refl (whole-records f) (outcome (header_of (take 120 f)) start [] 0 (records_of f) (whole-records f)) e

-- from the fault to the refusal
due-refused : (w : Walk) (n : ℕ) → ¬ (is_due (permitted w.place.due) ≡ false) → ended w n ≡ refused (refusal 4 (suc n) 0)
due-refused w n due = go (is_due (permitted w.place.due)) refl
  where
    go : (b : Bool) → is_due (permitted w.place.due) ≡ b → cond b (refused (refusal 4 (suc n) 0)) (accepted (walk_totals w n)) ≡ refused (refusal 4 (suc n) 0)
    go true e = refl
    go false e = absurd (due e)

fault_refused : (f : List ℕ) (x : Refusal) → FirstFault f x → judge f ≡ refused x
fault_refused f x (wrong_length wrong) = (length-refused f 0 0).1 (refl, refl, wrong)
fault_refused f x (in_record before rec after n p sized same each fault) =
    let whole : Whole (before ++ (rec ∷ after)) = subst Whole same (whole-records f) in
    let size = all_at (λ (l : List ℕ). length l ≡ 120) before rec after whole in
    let walked = walked_of f before (all-before (λ (l : List ℕ). length l ≡ 120) before (rec ∷ after) whole) each in
    let rs = walked.0 in
    let next = fault_next f rs walked.2 rec n p (subst (λ (l : List (List ℕ)). FaultAfter f l rec n p) (sym walked.1) fault) in
    judged f sized ∙ ap (judge_from f) (same ∙ ap (λ (l : List (List ℕ)). l ++ (rec ∷ after)) (sym walked.1)) ∙ stops_so ended f rs walked.2 rec after n p size next
    ∙ ap (λ (l : List (List ℕ)). refused (refusal n (suc (length l)) p)) walked.1
fault_refused f x (still_due sized each none) =
    let walked = walked_of f (records_of f) (whole-records f) each in
    let rs = walked.0 in
    let count : suc (length rs) ≡ suc (length (records_of f)) = ap suc (sym (length-map rs (λ (x : Typed). x.bytes))) ∙ ap (λ (l : List (List ℕ)). suc (length l)) walked.1 in
    judged f sized ∙ ap (judge_from f) (sym walked.1) ∙ ends_so ended f rs walked.2
    ∙ due-refused (state_after start rs) (length rs) (λ e. none (kinds_of rs) (subst (HaveKinds (kinds_of rs)) walked.1 (have-kinds rs (formed_so f rs walked.2))) (complete_order f rs walked.2 e))
    ∙ ap (λ (n : ℕ). refused (refusal 4 n 0)) count

pub first_fault_exact : FirstFaultExact
first_fault_exact f x = (fault_found f x, fault_refused f x)
