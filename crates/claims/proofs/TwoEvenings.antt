-- What differs between two evenings, from the laws of `evenings`. Assumes nothing.
use Prim.Native.Nat.{ℕ, suc, ◌+◌, ◌-◌, ◌≤◌, ◌<◌}
use mathlib.Core.Bool.{true}
use mathlib.Core.List.{List}
use mathlib.Core.Path.{◌≡◌, sym, ◌∙◌, ap}
use native.Mathlib.Omega.{arith}
use lib.Dec.{leb}
use lib.ListN.{length, get_or, length-map}
use borrow.Author.Tests.{le-leb}
use Rattle.flow.specs.Judge.{judge}
use Rattle.flow.specs.Verdict.{accepted}
use Rattle.flow.specs.declared.answer.Totals.{Totals}
use Rattle.list.specs.Items.{Item}
use Rattle.list.specs.Same.{are_same}
use Rattle.flow.proofs.Output.{output_leaves}
use Rattle.evenings.specs.Account.{Line, letter_of, letters, Leads}
use Rattle.evenings.specs.Compare.{account_between, lines_of, judge_comparison, compare, no_line, find_line}
use Rattle.evenings.specs.Laws.{CanCompare}
use Rattle.evenings.specs.Requests.{requests_of, openings_in}
use Rattle.evenings.specs.Told.{told}
use Rattle.evenings.specs.declared.comparison.Lines.{Lines}
use Rattle.evenings.proofs.Asked.{line-answer}
use Rattle.evenings.proofs.Examples.{examples}
use Rattle.evenings.proofs.Exact.{account-leads, account_exact}
use Rattle.evenings.proofs.Leading.{leads-counted}
use Rattle.evenings.proofs.Opening.{openings-counted}
use Rattle.evenings.proofs.Refused.{are_same_decides, compare-accepted, right_judged}
use Rattle.evenings.proofs.Standing.{requests-counted}
use Rattle.evenings.proofs.Telling.{lines_in_order}
use Rattle.claims.specs.TwoEvenings.{Written, TwoEvenings}

module _ (old new : List ℕ) (lent : ℕ) (out : List ℕ) (s : Lines) (e : (compare old new lent out).answer ≡ accepted s) where
  abbrev lines : List Line
  lines = account_between old new

  judged : judge_comparison old new lent (length out) ≡ accepted s
  unfolding compare
  judged = sym (output_leaves Lines (judge_comparison old new lent (length out)) (letters lines) out).0 ∙ e

  can : CanCompare old new lent × (length lines ≤ length out) × (s ≡ lines_of lines)
  can = (compare-accepted old new lent (length out) s).0 judged

  leads : Leads lines (requests_of old) (requests_of new)
  leads = account-leads are_same are_same_decides (requests_of old) (requests_of new)

  -- as many as there are records 14
  openings : (f : List ℕ) (t : Totals) → judge f ≡ accepted t → length (openings_in f) ≡ length (requests_of f)
  openings f t read = openings-counted f t read ∙ sym (requests-counted f t read)

  written : Written old new lent out s
  unfolding compare
  written =
      let c = can.0 in
      record {
        lines = lines;
        filled = (output_leaves Lines (judge_comparison old new lent (length out)) (letters lines) out).1 s judged (omega (arith, can.1, length-map lines letter_of));
        sorts = can.2;
        meant = account_exact (List Item) are_same are_same_decides (requests_of old) (requests_of new);
        counted = leads-counted (List Item) lines (requests_of old) (requests_of new) leads;
        in_order = lines_in_order (List Item) lines (requests_of old) (requests_of new) (openings_in old) (openings_in new) leads (openings old c.old_totals c.old_read) (openings new c.new_totals c.new_read);
      }

  counts : (t u : Totals) → judge old ≡ accepted t → judge new ≡ accepted u → (s.kept + s.dropped ≡ t.dispositions) × (s.kept + s.added ≡ u.dispositions)
  counts t u read read' =
      let counted = leads-counted (List Item) lines (requests_of old) (requests_of new) leads in (
        ap (λ (r : Lines). r.kept + r.dropped) can.2 ∙ counted.last_night ∙ requests-counted old t read,
        ap (λ (r : Lines). r.kept + r.added) can.2 ∙ counted.tonight ∙ requests-counted new u read',
      )

  line : (n : ℕ) → n < length lines → find_line old new lent (suc n) ≡ accepted (get_or (told (openings_in old) (openings_in new) lines) n no_line)
  line n h =
      let some : leb 1 (suc n) ≡ true = le-leb 1 (suc n) (omega arith) in
      let within : leb (suc n) (length lines) ≡ true = le-leb _ _ h in
      let back : suc n - 1 ≡ n = omega arith in
      line-answer old new lent (suc n) (right_judged old new lent can.0) ∙ rw (some, within) (ap (λ (m : ℕ). accepted (get_or (told (openings_in old) (openings_in new) lines) m no_line)) back)

pub two_evenings : TwoEvenings
two_evenings =
    record {
      same = are_same_decides;
      requests = λ f t read. (requests-counted f t read, openings-counted f t read);
      written = written;
      counts = λ old new lent out s t u e read read'. counts old new lent out s e t u read read';
      line = line;
      examples = examples;
    }
