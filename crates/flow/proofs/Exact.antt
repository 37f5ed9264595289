-- Counts that stop one above the trailer's digits: no record is judged otherwise for it, and after a right trailer they are exact.
-- Assumes nothing.
use Prim.Native.Nat.{ℕ, suc, ◌+◌, min}
use mathlib.Core.Bool.{Bool, true, false, cond, true≢false}
use mathlib.Core.List.{List}
use mathlib.Core.Path.{◌≡◌, refl, sym, ◌∙◌, ap, subst}
use native.Mathlib.Omega.{arith}
use lib.Dec.{eqb, ltb}
use lib.ListN.{length}
use Rattle.records.specs.Bytes.{bad_byte}
use Rattle.records.specs.Context.{Header, context}
use Rattle.records.specs.RecordVerdict.{RecordVerdict, right, refused}
use Rattle.records.specs.Judge.{judge_as}
use Rattle.records.specs.Kinds.{has_type, opened}
use Rattle.records.specs.Limits.{count_limit, cents_limit, saturated_counts}
use Rattle.records.specs.declared.judged.Counts.{Counts}
use Rattle.records.specs.declared.kind.RecordKind.{RecordKind}
use Rattle.records.specs.declared.kind.RecordKind.TheVariants.{Im, R14, R16, R20, R30, R40, R50, R59, R51, R70, Ef}
use Rattle.records.proofs.ByKind.{right-asked}
use Rattle.records.proofs.FirstFault.{right-not-refused}
use Rattle.records.proofs.Saturation.{saturation_unseen, trailer_exact}
use Rattle.flow.specs.Order.{In, permitted, is_due, place_due, place_after, among}
use Rattle.flow.specs.Walking.{dispositions_with, kind_after, step, counts_at, judge_typed, judge_record, saturated}
use Rattle.flow.specs.declared.order.Due.{Due}
use Rattle.flow.specs.declared.order.Due.TheVariants.{OnlyIm, OnlyR14, R16OrR20, OnlyR20, OnlyR30, OnlyR40, R50OrR59, R59OrR51, OnlyR51, OnlyR70, R14OrEf, Nothing}
use Rattle.flow.specs.declared.walk.Walk.{Walk}
use Rattle.flow.proofs.Among.{among-said}
use Rattle.records.specs.declared.flow_kind.FlowKind.{FlowKind}
use Rattle.std.specs.Prelude.{Option, Some, None}

-- counts that stop alike are judged alike
pub counts_alike : (header : Header) (company : List ℕ) (q : Option FlowKind) (k : RecordKind) (a b : Counts) (rec : List ℕ) → saturated_counts a ≡ saturated_counts b → judge_as k (context header company q a) rec ≡ judge_as k (context header company q b) rec
counts_alike header company q k a b rec e =
    sym (saturation_unseen k (context header company q a) rec) ∙ ap (λ (c : Counts). judge_as k (context header company q c) rec) e ∙ saturation_unseen k (context header company q b) rec

-- a sum that goes on from where one stopped, stops alike
on_from_limit : (a m l : ℕ) → min (min a l + m) l ≡ min (a + m) l
on_from_limit a m l = omega arith

-- the counts of a state that has stopped
saturated-counts : (w : Walk) (n : ℕ) (k : RecordKind) → saturated_counts (counts_at (saturated w) n k) ≡ saturated_counts (counts_at w n k)
saturated-counts w n k =
    let count = on_from_limit w.dispositions (opened k) count_limit in
    let cents : min (min w.cents cents_limit) cents_limit ≡ min w.cents cents_limit = omega arith in
    λ i. record { dispositions = count i; cents = cents i; records = n }

-- so a state that has stopped judges as the exact one does, and has the same next state
module _ (header : Header) (w : Walk) (company : List ℕ) (n : ℕ) (rec : List ℕ) where
  typed_alike : (x : Option RecordKind) → judge_typed header (saturated w) company n rec x ≡ judge_typed header w company n rec x
  unfolding judge_typed
  typed_alike None = refl
  typed_alike (Some k) = counts_alike header company w.kind k (counts_at (saturated w) n k) (counts_at w n k) rec (saturated-counts w n k)

  pub record_alike : judge_record header (saturated w) company n rec ≡ judge_record header w company n rec
  unfolding judge_record
  record_alike = ap (λ (x : RecordVerdict). cond (eqb (length rec) 120) (cond (eqb (bad_byte rec) 0) x (refused 2 (bad_byte rec))) (refused 1 0)) (typed_alike (among (permitted w.place.due) rec))

pub saturated-step : (w : Walk) (k : RecordKind) (c : ℕ) (rec : List ℕ) → saturated (step (saturated w) k c rec) ≡ saturated (step w k c rec)
saturated-step w k c rec =
    let count = on_from_limit w.dispositions (opened k) count_limit in
    let cents = on_from_limit w.cents c cents_limit in
    λ i. record { place = place_after w.place.further k; kind = kind_after w.kind k rec; dispositions = count i; cents = cents i }

-- nothing is due at one place alone
pub due-nothing : (d : Due) → is_due (permitted d) ≡ false → d ≡ Nothing
due-nothing OnlyIm e = absurd (true≢false e)
due-nothing OnlyR14 e = absurd (true≢false e)
due-nothing R16OrR20 e = absurd (true≢false e)
due-nothing OnlyR20 e = absurd (true≢false e)
due-nothing OnlyR30 e = absurd (true≢false e)
due-nothing OnlyR40 e = absurd (true≢false e)
due-nothing R50OrR59 e = absurd (true≢false e)
due-nothing R59OrR51 e = absurd (true≢false e)
due-nothing OnlyR51 e = absurd (true≢false e)
due-nothing OnlyR70 e = absurd (true≢false e)
due-nothing R14OrEf e = absurd (true≢false e)
due-nothing Nothing e = refl

-- only after a trailer nothing is due
pub last-kind : (n : ℕ) (k : RecordKind) → is_due (permitted (place_after n k).due) ≡ false → k ≡ Ef
last-kind n Im e = absurd (true≢false e)
last-kind n R14 e = absurd (true≢false e)
last-kind n R16 e = absurd (true≢false e)
last-kind n R20 e = absurd (true≢false e)
last-kind n R30 e = absurd (true≢false e)
last-kind n R40 e = absurd (true≢false e)
last-kind n R50 e = absurd (true≢false e)
last-kind n R59 e = absurd (further (ltb n 4) e)
  where
    further : (b : Bool) → is_due (permitted (cond b (record { due = R59OrR51; further = suc n }) (place_due OnlyR51)).due) ≡ false → ⊥
    further true e = true≢false e
    further false e = true≢false e
last-kind n R51 e = absurd (true≢false e)
last-kind n R70 e = absurd (true≢false e)
last-kind n Ef e = refl

-- what was found right was found so by its type, by the rules of its kind, and among the kinds permitted
pub right_typed :
    (header : Header) (w : Walk) (company : List ℕ) (n : ℕ) (rec : List ℕ) (k : RecordKind) (c : ℕ)
    → judge_record header w company n rec ≡ right k c → (has_type k rec ≡ true) × (judge_as k (context header company w.kind (counts_at w n k)) rec ≡ right k c) × In k (permitted w.place.due)
unfolding judge_record judge_typed
right_typed header w company n rec k c = sized (eqb (length rec) 120) (eqb (bad_byte rec) 0) (among (permitted w.place.due) rec) refl
  where
    of : (x : Option RecordKind) → among (permitted w.place.due) rec ≡ x → judge_typed header w company n rec x ≡ right k c → (has_type k rec ≡ true) × (judge_as k (context header company w.kind (counts_at w n k)) rec ≡ right k c) × In k (permitted w.place.due)
    of None t e = absurd (right-not-refused e)
    of (Some l) t e =
        let same = (right-asked l k (context header company w.kind (counts_at w n l)) rec c e).0 in
        let said = among-said (permitted w.place.due) rec l t in
        subst (λ (m : RecordKind). (has_type m rec ≡ true) × (judge_as m (context header company w.kind (counts_at w n m)) rec ≡ right k c) × In m (permitted w.place.due)) same (said.1, e, said.0)

    sized : (a b : Bool) (x : Option RecordKind) → among (permitted w.place.due) rec ≡ x → cond a (cond b (judge_typed header w company n rec x) (refused 2 (bad_byte rec))) (refused 1 0) ≡ right k c → (has_type k rec ≡ true) × (judge_as k (context header company w.kind (counts_at w n k)) rec ≡ right k c) × In k (permitted w.place.due)
    sized true true x t e = of x t e
    sized true false x t e = absurd (right-not-refused e)
    sized false b x t e = absurd (right-not-refused e)

-- after a right trailer the counts have not stopped
pub exact_at_end :
    (header : Header) (w : Walk) (company : List ℕ) (n : ℕ) (rec : List ℕ) (k : RecordKind) (c : ℕ)
    → judge_record header w company n rec ≡ right k c → is_due (permitted (step w k c rec).place.due) ≡ false → saturated (step w k c rec) ≡ step w k c rec
exact_at_end header w company n rec k c e last = trailer (last-kind w.place.further k last)
  where
    trailer : k ≡ Ef → saturated (step w k c rec) ≡ step w k c rec
    trailer ef =
        let found : judge_as Ef (context header company w.kind (counts_at w n Ef)) rec ≡ right k c = subst (λ (m : RecordKind). judge_as m (context header company w.kind (counts_at w n m)) rec ≡ right k c) ef (right_typed header w company n rec k c e).1 in
        let small = trailer_exact (context header company w.kind (counts_at w n Ef)) rec k c found in
        let none : c ≡ 0 = (right-asked Ef k (context header company w.kind (counts_at w n Ef)) rec c found).1 in
        let same : opened k ≡ 0 = ap opened ef in
        let count : min (dispositions_with w k) count_limit ≡ dispositions_with w k = omega arith in
        let cents : min (w.cents + c) cents_limit ≡ w.cents + c = omega arith in
        λ i. record { place = place_after w.place.further k; kind = kind_after w.kind k rec; dispositions = count i; cents = cents i }
