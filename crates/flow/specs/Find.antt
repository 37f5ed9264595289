-- Where disposition k is (document 01, "Questions and changes": its first record, its number of records, its amount, and its part of the
-- flow; the reader's refusals, then 15). Assumes nothing.
use Rattle.std.specs.Prelude.{ℕ, suc, ◌+◌, ◌-◌, ◌*◌, ◌≤◌, cond, ◌&&◌, ◌≡◌, leb, length, take, drop, get_or}
use mathlib.Core.List.{List, [], drop_last, flatten}
use Rattle.sequences.specs.Groups.{lead, groups}
use Rattle.sequences.specs.Part.{part}
use Rattle.fields.specs.Digits.{number}
use Rattle.records.specs.Amount.{amount_in}
use Rattle.records.specs.Kinds.{is_opening}
use Rattle.flow.specs.Judge.{judge}
use Rattle.flow.specs.Records.{records_of}
use Rattle.flow.specs.Verdict.{Verdict, accepted, refused, of_call, and_then}
use Rattle.flow.specs.declared.answer.Totals.{Totals}
use Rattle.flow.specs.declared.location.Location.{Location}
use Rattle.flow.specs.declared.location.WithTotals.{WithTotals}

-- the dispositions of an accepted flow: each record that opens one with those after it, up to the
-- next such record or the trailer
abbrev pub dispositions_in : List ℕ → List (List (List ℕ))
dispositions_in f = groups is_opening (drop_last (records_of f))

-- the index of the first record of the k-th of them, where dispositions count from 1 and indexes from 0: after the header and those
-- before it
abbrev pub start_of : List (List (List ℕ)) → ℕ → ℕ
start_of ds k = suc (length (flatten (take (k - 1) ds)))

-- a number that one of d dispositions has
abbrev pub IsNumber : ℕ → ℕ → Type 0
IsNumber k d = (1 ≤ k) × (k ≤ d)

-- where the k-th of them is
abbrev pub location_of : List (List (List ℕ)) → ℕ → Location
location_of ds k =
    let d = get_or ds (k - 1) [] in
    record { first = suc (start_of ds k); records = length d; cents = number (amount_in (get_or d 0 [])) }

-- what the reader refuses is refused, and a number that no disposition has by 15
unfoldable pub find : List ℕ → ℕ → Verdict Location
find f k =
    and_then (judge f)
    (λ (t : Totals). cond (leb 1 k && leb k t.dispositions) (accepted (location_of (dispositions_in f) k)) (refused (of_call 15)))

-- what reading and finding answer together, for the amendments: the totals of an accepted flow, and where disposition k is in it
abbrev pub with_totals : Totals → Location → WithTotals
with_totals t s = record { totals = t; location = s }

unfoldable pub find_with_totals : List ℕ → ℕ → Verdict WithTotals
find_with_totals f k = and_then (judge f) (λ (t : Totals). and_then (find f k) (λ (s : Location). accepted (with_totals t s)))

-- the bytes of a disposition that stands in f; of a refusal none
abbrev pub bytes_at : Verdict Location → List ℕ → List ℕ
bytes_at (accepted s) f = part (120 * (s.first - 1)) (120 * s.records) f
bytes_at (refused x) f = []

abbrev pub part_of : List ℕ → ℕ → List ℕ
part_of f k = bytes_at (find f k) f

-- the index in f of the first of them; of a refusal 0
abbrev pub offset_at : Verdict Location → ℕ
offset_at (accepted s) = 120 * (s.first - 1)
offset_at (refused x) = 0

abbrev pub offset_of : List ℕ → ℕ → ℕ
offset_of f k = offset_at (find f k)

-- For the contracts of private functions: disposition k stands in the flow f, which is accepted
pub record HasDisposition (f : List ℕ) (k : ℕ) : Type 0 where
  pub totals : Totals
  pub read : judge f ≡ accepted totals
  pub some : 1 ≤ k
  pub within : k ≤ totals.dispositions

-- the index of the first record that opens a disposition, at index i of f's records or after it, or of the trailer, the last record, where
-- there is none; and i itself where it is after the trailer
abbrev pub opening_from : List ℕ → ℕ → ℕ
opening_from f i = i + length (lead is_opening (drop i (drop_last (records_of f))))
