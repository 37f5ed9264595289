-- The exact counts of a flow and its kind, over its records and without a word of the walk (document 01, "Questions and changes": the amount
-- is what 34-46 say, and the total is the sum of these; document 02, E1: the first record 14 decides the kind). Assumes nothing.
use Rattle.std.specs.Prelude.{ℕ, ◌+◌, cond, List, [], ◌∷◌}
use Rattle.fields.specs.Digits.{number}
use Rattle.records.specs.Amount.{amount_in}
use Rattle.records.specs.FlowKinds.{kind_in, or_requests, first_known}
use Rattle.records.specs.Kinds.{is_opening}
use Rattle.records.specs.declared.flow_kind.FlowKind.{FlowKind}
use Rattle.std.specs.Prelude.{Option, None}

-- the records that open a disposition among records, and the sum of their amounts
unfoldable pub opening_count : List (List ℕ) → ℕ
opening_count [] = 0
opening_count (rec ∷ recs) = cond (is_opening rec) 1 0 + opening_count recs

unfoldable pub amount_sum : List (List ℕ) → ℕ
amount_sum [] = 0
amount_sum (rec ∷ recs) = cond (is_opening rec) (number (amount_in rec)) 0 + amount_sum recs

-- the kind that the first record 14 among records says, where none is known before them; and with requests where there is no 14
unfoldable pub kind_from : Option FlowKind → List (List ℕ) → Option FlowKind
kind_from q [] = q
kind_from q (rec ∷ recs) = kind_from (cond (is_opening rec) (first_known q (kind_in rec)) q) recs

abbrev pub kind_of : List (List ℕ) → FlowKind
kind_of recs = or_requests (kind_from None recs)
