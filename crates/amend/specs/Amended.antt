-- What an amendment answers and leaves (document 01, "Questions and changes"). Assumes nothing.
use Rattle.std.specs.Prelude.{ℕ, ◌+◌, ◌-◌, ◌*◌, List, Result, Ok, Err, length}
use Rattle.sequences.specs.Part.{put}
use Rattle.flow.specs.Verdict.{Verdict, accepted, refused, verdict, on_paper}
use Rattle.flow.specs.Verdict.{Refusal}
use Rattle.flow.specs.declared.answer.Refusal.{Refusal as Code-Refusal}
use Rattle.flow.specs.declared.answer.Totals.{Totals}
use Rattle.flow.specs.declared.location.WithTotals.{WithTotals}
use Rattle.amend.specs.declared.withdrawal.Withdrawn.{Withdrawn}

-- the answer, the length of the flow left, and the caller's bytes afterwards
pub record Amended : Type 0 where
  pub answer : Verdict Totals
  pub size : ℕ
  pub bytes : List ℕ

-- the paper's values for what a change gives, with the length of the flow left and the bytes as they were left
abbrev pub amended : Result Totals Code-Refusal → ℕ → List ℕ → Amended
amended r size bytes = record { answer = verdict r; size = size; bytes = bytes }

-- and for what a withdrawal gives, with the length lent, which is that of the flow left where it is refused
abbrev pub withdrawn_amended : ℕ → Result Withdrawn Code-Refusal → List ℕ → Amended
withdrawn_amended lent (Ok w) bytes = record { answer = accepted w.totals; size = w.length; bytes = bytes }
withdrawn_amended lent (Err x) bytes = record { answer = refused (on_paper x); size = lent; bytes = bytes }

-- "after a refusal all lent memory is as before", and the next call is lent as many bytes
abbrev pub unchanged : Refusal → List ℕ → Amended
unchanged x f = record { answer = refused x; size = length f; bytes = f }

-- what is made of a disposition that was found in f
abbrev pub where_found : Verdict WithTotals → (WithTotals → Amended) → List ℕ → Amended
where_found (accepted v) made f = made v
where_found (refused x) made f = unchanged x f

-- a record with bytes written over it from position p on
abbrev pub written_at : ℕ → List ℕ → List ℕ → List ℕ
written_at p bs rec = put (p - 1) bs rec

-- the flow with bytes written over record r from position p on, both counted from 1
abbrev pub written_in_record : ℕ → ℕ → List ℕ → List ℕ → List ℕ
written_in_record r p bs f = put (120 * (r - 1) + (p - 1)) bs f
