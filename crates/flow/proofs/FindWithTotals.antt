-- Reading and finding together: which of the two decides. Assumes nothing.
use Prim.Native.Nat.{ℕ}
use mathlib.Core.Bool.{true, false, ◌&&◌}
use mathlib.Core.List.{List}
use mathlib.Core.Logic.{inl}
use mathlib.Core.Path.{◌≡◌, refl, sym, ◌∙◌, ap}
use lib.Dec.{leb}
use Rattle.flow.specs.Find.{dispositions_in, location_of, find, with_totals, find_with_totals}
use Rattle.flow.specs.Judge.{judge}
use Rattle.flow.specs.Laws.{FindWithTotalsExact}
use Rattle.flow.specs.Verdict.{Verdict, accepted, refused, of_call, and_then}
use Rattle.flow.specs.Verdict.{Refusal}
use Rattle.flow.specs.declared.answer.Totals.{Totals}
use Rattle.flow.specs.declared.location.Location.{Location}
use Rattle.flow.specs.declared.location.WithTotals.{WithTotals}
use Rattle.flow.proofs.Accepted.{accepted-not-refused, accepted-same, refused-same}
use Rattle.flow.proofs.Dispositions.{find-refused}

module _ (f : List ℕ) (k : ℕ) where
  pub not_read : {x : Refusal} → judge f ≡ refused x → find_with_totals f k ≡ refused x
  unfolding find_with_totals
  not_read wrong = rw wrong

  -- after the reader's acceptance the question decides
  asked : {t : Totals} → judge f ≡ accepted t → find_with_totals f k ≡ and_then (find f k) (λ (s : Location). accepted (with_totals t s))
  unfolding find_with_totals
  asked read = rw read

  pub read_found : {t : Totals} {s : Location} → judge f ≡ accepted t → find f k ≡ accepted s → find_with_totals f k ≡ accepted (with_totals t s)
  read_found {t} read found = asked read ∙ ap (λ (l : Verdict Location). and_then l (λ (s : Location). accepted (with_totals t s))) found

  -- a question is refused as the reader refuses
  pub not_found : {x : Refusal} → find f k ≡ refused x → find_with_totals f k ≡ refused x
  unfolding find
  not_found {x} none = by (judge f) refl
    where
      by : (v : Verdict Totals) → judge f ≡ v → find_with_totals f k ≡ refused x
      by (accepted t) read = asked read ∙ ap (λ (l : Verdict Location). and_then l (λ (s : Location). accepted (with_totals t s))) none
      by (refused y) wrong =
          let same : refused y ≡ refused x = rw wrong at none in
          not_read wrong ∙ ap refused (refused-same same)

  -- so it is decided by the number
  module _ {t : Totals} (read : judge f ≡ accepted t) where
    pub no_number : (leb 1 k && leb k t.dispositions) ≡ false → find_with_totals f k ≡ refused (of_call 15)
    unfolding find
    no_number test = not_found (rw (read, test))

    pub numbered : (leb 1 k && leb k t.dispositions) ≡ true → {s : Location} → s ≡ location_of (dispositions_in f) k → find_with_totals f k ≡ accepted (with_totals t s)
    unfolding find
    numbered test place = read_found read (rw (read, test) (ap accepted (sym place)))

  -- what was found is in an accepted flow
  pub find-reads : {g : WithTotals} → find_with_totals f k ≡ accepted g → (judge f ≡ accepted g.totals) × (find f k ≡ accepted g.location)
  unfolding find_with_totals
  find-reads {g} e = by (judge f) (find f k) refl refl
    where
      by : (v : Verdict Totals) (l : Verdict Location) → judge f ≡ v → find f k ≡ l → (judge f ≡ accepted g.totals) × (find f k ≡ accepted g.location)
      by (accepted t) (accepted s) read found =
          let same : with_totals t s ≡ g = accepted-same (sym (read_found read found) ∙ e) in
          (read ∙ ap (λ (h : WithTotals). accepted h.totals) same, found ∙ ap (λ (h : WithTotals). accepted h.location) same)
      by (accepted t) (refused x) read none = absurd (accepted-not-refused (sym (not_found none) ∙ e))
      by (refused x) l wrong found = absurd (accepted-not-refused (sym (not_read wrong) ∙ e))

pub find_with_totals_exact : FindWithTotalsExact
find_with_totals_exact f k = (
  λ g. (find-reads f k, λ both. read_found f k both.0 both.1),
  λ x. (by x (judge f) (find f k) refl refl, not_found f k),
)
  where
    by : (x : Refusal) (v : Verdict Totals) (l : Verdict Location) → judge f ≡ v → find f k ≡ l → find_with_totals f k ≡ refused x → find f k ≡ refused x
    by x (accepted t) (accepted s) read found e = absurd (accepted-not-refused (sym e ∙ read_found f k read found))
    by x (accepted t) (refused y) read none e = none ∙ ap refused (refused-same (sym (not_found f k none) ∙ e))
    by x (refused y) l wrong found e = (find-refused f k x).1 (inl (wrong ∙ ap refused (refused-same (sym (not_read f k wrong) ∙ e))))
