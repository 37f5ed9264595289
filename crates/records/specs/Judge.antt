-- What is found of a record of a kind. Assumes nothing.
use Rattle.std.specs.Prelude.{ℕ, cond, List, eqb, length}
use Rattle.fields.specs.Digits.{number}
use Rattle.records.specs.Amount.{amount_in}
use Rattle.records.specs.Checks.{checks}
use Rattle.records.specs.Context.{Context}
use Rattle.records.specs.RecordVerdict.{RecordVerdict, right, refused, first_fault}
use Rattle.records.specs.Kinds.{opens}
use Rattle.records.specs.declared.kind.RecordKind.{RecordKind}

-- the cents that a record asks for: the amount where it opens a disposition, of another record none
abbrev pub asked : RecordKind → List ℕ → ℕ
asked k rec = cond (opens k) (number (amount_in rec)) 0

-- the first check that fails refuses, and a record that is not 120 bytes long gets 1
unfoldable pub judge_as : RecordKind → Context → List ℕ → RecordVerdict
judge_as k ctx rec = cond (eqb (length rec) 120) (first_fault (checks k ctx rec) (right k (asked k rec))) (refused 1 0)
