-- The fast path of the reader: a record that was settled is right, and after a right record the next one's number is known. Assumes
-- nothing.
use Prim.Native.Nat.{ℕ, suc, ◌+◌, ◌-◌, ◌/◌, min, ◌≤◌, ◌<◌}
use mathlib.Core.Bool.{Bool, true, false, and-eq-true_iff, true≢false}
use mathlib.Core.List.{List, ◌∷◌}
use mathlib.Core.Path.{◌≡◌, refl, sym, ◌∙◌, ap}
use native.Mathlib.Omega.{arith}
use lib.Dec.{eqb}
use lib.ListN.{length}
use borrow.Author.Tests.{eqb-true}
use Rattle.fields.specs.Digits.{is_digits, number}
use Rattle.records.specs.Checks.{checks}
use Rattle.records.specs.Context.{Header, Context, context}
use Rattle.records.specs.Field.{field}
use Rattle.records.specs.RecordVerdict.{right, Hold}
use Rattle.records.specs.Judge.{judge_as}
use Rattle.records.specs.Kinds.{opened, closes}
use Rattle.records.specs.Limits.{count_limit}
use Rattle.records.specs.QuickTest.{passes_quick_test}
use Rattle.records.specs.declared.kind.RecordKind.{RecordKind}
use Rattle.records.specs.declared.kind.RecordKind.TheVariants.{Im, R14, R16, R20, R30, R40, R50, R59, R51, R70, Ef}
use Rattle.records.proofs.ByKind.{right-asked}
use Rattle.records.proofs.RightOrBroken.{right_exact}
use Rattle.records.proofs.QuickTestRight.{quick_test_right}
use Rattle.flow.specs.FastPath.{is_inside, Inside, NumberBefore, at_place, PassedOver}
use Rattle.flow.specs.Judge.{walk_from}
use Rattle.flow.specs.Order.{permitted, is_due, all_go_on, place_after}
use Rattle.flow.specs.Records.{record_at, records_from}
use Rattle.flow.specs.Walking.{kind_after, dispositions_with, step, company_after, judge_record, saturated}
use Rattle.flow.specs.Verdict.{Verdict}
use Rattle.flow.specs.declared.answer.Totals.{Totals}
use Rattle.flow.specs.declared.order.Due.{Due}
use Rattle.flow.specs.declared.order.Place.{Place}
use Rattle.flow.specs.declared.walk.Walk.{Walk}
use Rattle.flow.proofs.Cut.{cut_next, record_whole}
use Rattle.flow.proofs.Exact.{last-kind, right_typed}
use Rattle.flow.proofs.Places.{handed, handed_alike, of_type}
use Rattle.flow.proofs.Reading.{Reading}
use Rattle.std.specs.Prelude.{Some}

-- a record that passes the quick test is right at its place
right_at_place :
    (header : Header) (w : Walk) (company : List ℕ) (n : ℕ) (before rec : List ℕ) (k : RecordKind) → length rec ≡ 120 → NumberBefore w before
    → Inside w.place.due rec (Some k) → passes_quick_test k (field 4 10 before) rec ≡ true → judge_record header w company n rec ≡ right k 0
right_at_place header w company n before rec k whole numbered inside passes =
    let told = quick_test_right k (field 4 10 before) rec passes in
    let known = numbered inside.0 in
    let value = known.1 in
    let none : opened k ≡ 0 = rw told.1 in
    of_type header w company n rec whole k told.0 inside.1 ∙ told.4 (context header company w.kind (handed w n k)) known.0 (omega arith)

-- a record after which a disposition goes on has its number
number_held :
    (f : ℕ) (k : RecordKind) (ctx : Context) (rec : List ℕ) → is_inside (place_after f k).due ≡ true → Hold (checks k ctx rec)
    → (is_digits (field 4 10 rec) ≡ true) × (eqb (number (field 4 10 rec)) ctx.counts.dispositions ≡ true)
unfolding checks
number_held f Im ctx rec e h = absurd (true≢false (sym e))
number_held f R14 ctx rec e h = (h.0, h.1.0)
number_held f R16 ctx rec e h = (h.0, h.1.0)
number_held f R20 ctx rec e h = (h.0, h.1.0)
number_held f R30 ctx rec e h = (h.0, h.1.0)
number_held f R40 ctx rec e h = (h.0, h.1.0)
number_held f R50 ctx rec e h = (h.0, h.1.0)
number_held f R59 ctx rec e h = (h.0, h.1.0)
number_held f R51 ctx rec e h = (h.0, h.1.0)
number_held f R70 ctx rec e h = absurd (true≢false (sym e))
number_held f Ef ctx rec e h = absurd (true≢false (sym e))

-- so after a right record the next one's number is known
numbered_next :
    (header : Header) (w : Walk) (company : List ℕ) (n : ℕ) (rec : List ℕ) (k : RecordKind) (c : ℕ) → length rec ≡ 120
    → judge_record header w company n rec ≡ right k c → NumberBefore (step w k c rec) rec
numbered_next header w company n rec k c whole found inside =
    let ctx : Context = context header company w.kind (handed w n k) in
    let told : judge_as k ctx rec ≡ right k c = sym (handed_alike header w company n rec k) ∙ (right_typed header w company n rec k c found).1 in
    let asks = (right-asked k k ctx rec c told).1 in
    let held = number_held w.place.further k ctx rec inside ((right_exact k ctx rec whole).0 (told ∙ ap (right k) asks)) in
    (held.0, eqb-true (number (field 4 10 rec)) (min (dispositions_with w k) count_limit) held.1)

-- also where the counts have stopped
pub numbered_saturated :
    (header : Header) (w : Walk) (company : List ℕ) (n : ℕ) (rec : List ℕ) (k : RecordKind) (c : ℕ) → length rec ≡ 120
    → judge_record header w company n rec ≡ right k c → NumberBefore (saturated (step w k c rec)) rec
numbered_saturated header w company n rec k c whole found inside =
    let held = numbered_next header w company n rec k c whole found inside in
    let value = held.1 in
    (held.0, omega arith)

-- after one record more the kind and the counts stay, the place moves on, and what is left decides as it did
pass_one :
    (end : Walk → ℕ → Verdict Totals) (header : Header) (company : List ℕ) (w : Walk) (i : ℕ) (before rec : List ℕ) (recs : List (List ℕ)) (p : Place) (k : RecordKind) → length rec ≡ 120
    → NumberBefore (at_place w p) before → Inside p.due rec (Some k) → passes_quick_test k (field 4 10 before) rec ≡ true
    → walk_from end header (at_place w p) company i (rec ∷ recs) ≡ walk_from end header (at_place w (place_after p.further k)) company (suc i) recs
unfolding walk_from
pass_one end header company w i before rec recs p k whole numbered inside passes =
    let found = right_at_place header (at_place w p) company (suc i) before rec k whole numbered inside passes in
    let opens-no = (quick_test_right k (field 4 10 before) rec passes).1 in
    let none : opened k ≡ 0 = rw opens-no in
    let count : dispositions_with w k ≡ w.dispositions = omega arith in
    let cents : w.cents + 0 ≡ w.cents = omega arith in
    let kind : kind_after w.kind k rec ≡ w.kind = rw opens-no in
    let state : step (at_place w p) k 0 rec ≡ at_place w (place_after p.further k) = λ i. record { place = place_after p.further k; kind = kind i; dispositions = count i; cents = cents i } in
    let company-stays : company_after company k rec ≡ company = rw opens-no in
    rw (found, company-stays) (ap (λ (v : Walk). walk_from end header v company (suc i) recs) state)

-- where a disposition goes on a record is due, and one is due after a record that does not close the flow
still_due : (p : Place) (k : RecordKind) → is_inside p.due ≡ true → closes k ≡ false → is_due (permitted (place_after p.further k).due) ≡ is_due (permitted p.due)
still_due p k inside stays = due_after (is_due (permitted (place_after p.further k).due)) refl ∙ sym (inside_due p.due inside)
  where
    inside_due : (d : Due) → is_inside d ≡ true → is_due (permitted d) ≡ true
    inside_due d e = ((and-eq-true_iff (is_due (permitted d)) (all_go_on (permitted d))).0 e).0

    due_after : (b : Bool) → is_due (permitted (place_after p.further k).due) ≡ b → b ≡ true
    due_after true e = refl
    due_after false e = absurd (true≢false (sym (ap closes (last-kind p.further k e)) ∙ stays))

-- the loop over records that pass the quick test: those up to index i were passed over, and the number due at i is known
pub record Passing (f : List ℕ) (from : ℕ) (w : Walk) (i : ℕ) (here : Walk) : Type 0 where
  pub some : 1 ≤ from
  pub passed : PassedOver f from w i here
  pub known : (v : Walk) → NumberBefore (at_place v w.place) (record_at (from - 1) f) → NumberBefore (at_place v here.place) (record_at (i - 1) f)

pub pass_begin : (f : List ℕ) (from : ℕ) (w : Walk) → 1 ≤ from → from ≤ length f / 120 → Passing f from w from w
pass_begin f from w some within =
    record {
      some = some;
      passed = record { on = omega arith; within = within; counts = refl; due = refl; left = λ end header company v numbered. refl };
      known = λ v numbered. numbered;
    }

-- one record more
pub pass_next :
    (f : List ℕ) {from : ℕ} {w : Walk} (i : ℕ) (here : Walk) (k : RecordKind) → Passing f from w i here → i < length f / 120 → Inside here.place.due (record_at i f) (Some k)
    → passes_quick_test k (field 4 10 (record_at (i - 1) f)) (record_at i f) ≡ true → Passing f from w (suc i) (at_place here (place_after here.place.further k))
pass_next f {from} {w} i here k so_far more inside passes =
    let passed = so_far.passed in
    let on = passed.on in
    let q = here.place in
    let told = quick_test_right k (field 4 10 (record_at (i - 1) f)) (record_at i f) passes in
    let back : suc i - 1 ≡ i = omega arith in
    record {
      some = so_far.some;
      passed = record {
        on = omega arith;
        within = omega arith;
        counts = ap (λ (v : Walk). at_place v (place_after q.further k)) passed.counts;
        due = still_due q k inside.0 told.2 ∙ passed.due;
        left = λ end header company v numbered. passed.left end header company v numbered ∙ ap (walk_from end header (at_place v q) company i) (cut_next (length f / 120) i f more)
            ∙ pass_one end header company v i (record_at (i - 1) f) (record_at i f) (records_from (suc i) f) q k (record_whole f i more) (so_far.known v numbered) inside passes;
      };
      known = λ v numbered goes_on. rw (back, told.3) (so_far.known v numbered inside.0);
    }

-- a reading that has come to an index goes on after the records that are passed over from there
pub pass_on :
    (f : List ℕ) {end : Walk → ℕ → Verdict Totals} {header : Header} {all : List (List ℕ)} {company : List ℕ} (w : Walk) {from to : ℕ} {after : Walk}
    → Reading end header all w company from (records_from from f) → NumberBefore w (record_at (from - 1) f) → PassedOver f from w to after
    → Reading end header all after company to (records_from to f)
pass_on f {end} {header} {all} {company} w {from} {to} {after} r numbered passed =
    let exact = r.exact in
    let q = after.place in
    let few = r.few in
    let on = passed.on in
    let place : w.place ≡ exact.place = ap (λ (v : Walk). v.place) r.stops in
    let count : w.dispositions ≡ min exact.dispositions count_limit = ap (λ (v : Walk). v.dispositions) r.stops in
    let same-due : is_due (permitted exact.place.due) ≡ is_due (permitted q.due) = ap (λ (p : Place). is_due (permitted p.due)) (sym place) ∙ sym passed.due in
    let known : NumberBefore (at_place exact w.place) (record_at (from - 1) f) = λ inside.
    let held = numbered inside in
    let value = held.1 in
    (held.0, omega arith)
    in
    record {
      exact = at_place exact q;
      stops = passed.counts ∙ ap (λ (v : Walk). at_place v q) r.stops;
      final = λ e. ap (λ (v : Walk). at_place v q) (r.final (same-due ∙ e));
      few = omega arith;
      left = r.left ∙ ap (λ (p : Place). walk_from end header (at_place exact p) company from (records_from from f)) (sym place) ∙ passed.left end header company exact known;
    }
