-- What an answer of `list` that fills an output stands for on paper. Assumes nothing.
use Rattle.std.specs.Prelude.{List, ℕ, Result, Ok, Err}
use Rattle.flow.specs.Output.{Output}
use Rattle.flow.specs.Verdict.{verdict, accepted}
use Rattle.flow.specs.declared.answer.Refusal.{Refusal}
use Rattle.flow.specs.declared.answer.Totals.{Totals}
use Rattle.list.specs.declared.filled.Filled.{Filled}

-- the answer and the length written, which is 0 where the call is refused, and the output as it was left
abbrev pub filled_output : Result Filled Refusal → List ℕ → Output Totals
filled_output (Ok f) out = record { answer = accepted f.totals; written = f.length; bytes = out }
filled_output (Err x) out = record { answer = verdict (Err x); written = 0; bytes = out }
