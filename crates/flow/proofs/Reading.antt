-- The loop over the records of a flow: after each right record, what is left decides as the whole does. Assumes nothing.
use Prim.Native.Nat.{ℕ, suc, ◌≤◌}
use mathlib.Core.Bool.{Bool, true, false}
use mathlib.Core.List.{List, [], ◌∷◌}
use mathlib.Core.Path.{◌≡◌, refl, sym, ◌∙◌, ap}
use native.Mathlib.Omega.{arith}
use Rattle.records.specs.Context.{Header}
use Rattle.records.specs.RecordVerdict.{right}
use Rattle.records.specs.RecordVerdict.{refused as RecordVerdict-refused}
use Rattle.records.specs.Kinds.{opens, opened}
use Rattle.records.specs.declared.kind.RecordKind.{RecordKind}
use Rattle.flow.specs.Judge.{ended, walk_from}
use Rattle.flow.specs.Order.{permitted, is_due}
use Rattle.flow.specs.Walking.{start, step, company_after, judge_record, saturated}
use Rattle.flow.specs.Verdict.{Verdict, refused, refusal}
use Rattle.flow.specs.declared.answer.Totals.{Totals}
use Rattle.flow.specs.declared.walk.Walk.{Walk}
use Rattle.flow.proofs.Exact.{record_alike, saturated-step, exact_at_end}

-- after i right records of all, with the rest to come: the state w is the exact one, stopped, and is exact where nothing is due; it has
-- counted no more dispositions than records
pub record Reading (end : Walk → ℕ → Verdict Totals) (header : Header) (all : List (List ℕ)) (w : Walk) (company : List ℕ) (i : ℕ) (rest : List (List ℕ)) : Type 0 where
  pub exact : Walk
  pub stops : w ≡ saturated exact
  pub final : is_due (permitted exact.place.due) ≡ false → saturated exact ≡ exact
  pub few : exact.dispositions ≤ i
  pub left : walk_from end header start [] 0 all ≡ walk_from end header exact company i rest

pub begin : (end : Walk → ℕ → Verdict Totals) (header : Header) (all : List (List ℕ)) → Reading end header all start [] 0 all
begin end header all = record { exact = start; stops = refl; final = λ e. refl; few = omega arith; left = refl }

-- a record opens one disposition at the most
pub one_at_most : (k : RecordKind) → opened k ≤ 1
one_at_most k = by (opens k) refl
  where
    by : (b : Bool) → opens k ≡ b → opened k ≤ 1
    by true e = rw e (omega arith)
    by false e = rw e (omega arith)

module _
    {end : Walk → ℕ → Verdict Totals} {header : Header} {all : List (List ℕ)} {w : Walk} {company : List ℕ} {i : ℕ} {rest : List (List ℕ)} (r : Reading end header all w company i rest)
    (rec : List ℕ) (recs : List (List ℕ)) (next : rest ≡ rec ∷ recs)
  where
    -- the exact state finds of the next record what the stopped one does
    found_alike : judge_record header r.exact company (suc i) rec ≡ judge_record header w company (suc i) rec
    found_alike =
        sym (record_alike header r.exact company (suc i) rec) ∙ ap (λ (v : Walk). judge_record header v company (suc i) rec) (sym r.stops)

    -- a right record
    pub go_on :
        (k : RecordKind) (c : ℕ) → judge_record header w company (suc i) rec ≡ right k c
        → Reading end header all (saturated (step w k c rec)) (company_after company k rec) (suc i) recs
    unfolding walk_from
    go_on k c e =
        let found = found_alike ∙ e in
        let few = r.few in
        record {
          exact = step r.exact k c rec;
          stops = ap (λ (v : Walk). saturated (step v k c rec)) r.stops ∙ saturated-step r.exact k c rec;
          final = exact_at_end header r.exact company (suc i) rec k c found;
          few = omega (arith, one_at_most k);
          left = r.left ∙ rw (next, found);
        }

    -- a fault
    pub refuse : (m p : ℕ) → judge_record header w company (suc i) rec ≡ RecordVerdict-refused m p → refused (refusal m (suc i) p) ≡ walk_from end header start [] 0 all
    unfolding walk_from
    refuse m p e = sym (r.left ∙ rw (next, found_alike ∙ e))

-- the end: what the stopped state is answered there, the exact one is
pub finish :
    {end : Walk → ℕ → Verdict Totals} {header : Header} {all : List (List ℕ)} {w : Walk} {company : List ℕ} {i : ℕ} {rest : List (List ℕ)} (r : Reading end header all w company i rest)
    → rest ≡ [] → end (saturated r.exact) i ≡ end r.exact i → end w i ≡ walk_from end header start [] 0 all
unfolding walk_from
finish {end = end} {i = i} r none alike = ap (λ (v : Walk). end v i) r.stops ∙ alike ∙ sym (r.left ∙ rw none)

-- so it is where a flow has ended
pub ended_alike :
    {header : Header} {all : List (List ℕ)} {w : Walk} {company : List ℕ} {i : ℕ} {rest : List (List ℕ)} (r : Reading ended header all w company i rest)
    → ended (saturated r.exact) i ≡ ended r.exact i
ended_alike {i = i} r = by (is_due (permitted r.exact.place.due)) refl
  where
    by : (b : Bool) → is_due (permitted r.exact.place.due) ≡ b → ended (saturated r.exact) i ≡ ended r.exact i
    by true e = rw e
    by false e = ap (λ (v : Walk). ended v i) (r.final e)
