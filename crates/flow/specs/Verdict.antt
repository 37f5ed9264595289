-- What a call on a flow answers (document 01, "Numbers a clerk may see"). Assumes nothing.
use Rattle.std.specs.Prelude.{ℕ, Result, Ok, Err}
use Rattle.refusals.specs.Numbers.{number_of}
use Rattle.refusals.specs.declared.Reason.{Reason}
use Rattle.flow.specs.declared.answer.NumberedRefusal.{NumberedRefusal}
use Rattle.flow.specs.declared.answer.Refusal.{Refusal as Code-Refusal}

-- a refusal, by its number, record and position; and that of a call, by a number that stands for no record
pub record Refusal : Type 0 where
  pub number : ℕ
  pub «record» : ℕ
  pub position : ℕ

abbrev pub refusal : ℕ → ℕ → ℕ → Refusal
refusal n r p = record { number = n; «record» = r; position = p }

abbrev pub of_call : ℕ → Refusal
of_call n = refusal n 0 0

-- accepted with what the call tells, or refused with number, record and position
pub data Verdict (A : Type 0) : Type 0 where
  accepted : A → Verdict A
  refused : Refusal → Verdict A

-- what the code gives, or the paper's values for the refusal that it gives: `flow::Refusal` has the reason, and the reason its number
abbrev pub on_paper : Code-Refusal → Refusal
on_paper x = refusal (number_of x.reason) x.record x.position

abbrev pub verdict : {A : Type 0} → Result A Code-Refusal → Verdict A
verdict (Ok a) = accepted a
verdict (Err x) = refused (on_paper x)

-- the paper's values for a refusal that the code has by its number
abbrev pub numbered : NumberedRefusal → Refusal
numbered x = refusal x.number x.«record» x.position

-- the code's refusal of a call: on paper `of_call` of the reason's number
abbrev pub refused_call : Reason → Code-Refusal
refused_call r = record { reason = r; «record» = 0; position = 0 }

-- what is refused stays refused, and after an acceptance the rest decides
abbrev pub and_then : {A B : Type 0} → Verdict A → (A → Verdict B) → Verdict B
and_then (accepted a) rest = rest a
and_then (refused x) rest = refused x
