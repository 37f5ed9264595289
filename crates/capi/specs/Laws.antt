-- What is proved of everything that is returned. Assumes nothing.
use Rattle.std.specs.Prelude.{ℕ, List, ◌≡◌, length}
use Rattle.fields.specs.FieldVerdict.{FieldVerdict}
use Rattle.flow.specs.Verdict.{Verdict}
use Rattle.flow.specs.declared.answer.Totals.{Totals}
use Rattle.flow.specs.declared.location.Location.{Location}
use Rattle.list.specs.ReadBack.{read_back}
use Rattle.list.specs.Write.{write}
use Rattle.amend.specs.Change.{change}
use Rattle.amend.specs.Withdraw.{withdraw}
use Rattle.evenings.specs.Compare.{compare, judge_comparison, work_after, find_line}
use Rattle.evenings.specs.declared.account_line.AccountLine.{AccountLine}
use Rattle.evenings.specs.declared.comparison.Lines.{Lines}
use Rattle.capi.specs.Returned.{of_number, of_verdict, of_found, of_output, of_change, of_withdrawal, of_lines, of_compared, of_line}

-- a call that returns 0 leaves the caller's bytes as they were
abbrev pub RefusedLeaves : Type 0
RefusedLeaves =
    ((list out : List ℕ) → (of_output (write list out)).status ≡ 0 → (write list out).bytes ≡ out)
    × ((f out : List ℕ) → (of_output (read_back f out)).status ≡ 0 → (read_back f out).bytes ≡ out)
    × ((f : List ℕ) (k new : ℕ) → (of_change (change f k new)).status ≡ 0 → (change f k new).bytes ≡ f)
    × ((f : List ℕ) (k : ℕ) → (of_withdrawal (withdraw f k)).status ≡ 0 → (withdraw f k).bytes ≡ f)
    × ((old new work out : List ℕ) → (of_compared (compare old new (length work) out)).status ≡ 0 → ((compare old new (length work) out).bytes ≡ out) × (work_after (judge_comparison old new (length work) (length out)) work ≡ work))
    × ((old new work : List ℕ) (n : ℕ) → (of_line (find_line old new (length work) n)).status ≡ 0 → work_after (find_line old new (length work) n) work ≡ work)

-- what is returned tells the whole answer: calls that return the same are answered the same. (Of an accepted date it tells no day.)
abbrev pub ReturnedTells : Type 0
ReturnedTells =
    ((v u : Verdict Totals) (l m : ℕ) → of_verdict v l ≡ of_verdict u m → (v ≡ u) × (l ≡ m))
    × ((v u : Verdict Location) → of_found v ≡ of_found u → v ≡ u)
    × ((v u : FieldVerdict ℕ) → of_number v ≡ of_number u → v ≡ u)
    × ((v u : Verdict Lines) (l m : ℕ) → of_lines v l ≡ of_lines u m → (v ≡ u) × (l ≡ m))
    × ((v u : Verdict AccountLine) → of_line v ≡ of_line u → v ≡ u)
