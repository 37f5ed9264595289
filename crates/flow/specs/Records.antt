-- A flow as records of 120 bytes (document 01, "The flow as bytes"; "Numbers a clerk may see", row 1). Assumes nothing.
use Rattle.std.specs.Prelude.{ℕ, zero, suc, ◌-◌, ◌*◌, ◌/◌, ◌%◌, ◌≤◌, Bool, ◌&&◌, List, [], ◌∷◌, ◌≡◌, leb, eqb, length, take, drop}
use Rattle.records.specs.Limits.{most_records}

-- the most bytes of a flow: 9,999,999 records
abbrev pub most_bytes : ℕ
most_bytes = 120 * most_records

-- the length of a flow: one or more whole records, no more than these; as it is said, and as a test
abbrev pub RightLength : ℕ → Type 0
RightLength n = (1 ≤ n) × (n % 120 ≡ 0) × (n ≤ most_bytes)

abbrev pub is_length : ℕ → Bool
is_length n = leb 1 n && eqb (n % 120) 0 && leb n most_bytes

-- n records of 120 bytes
unfoldable pub cut : ℕ → List ℕ → List (List ℕ)
cut zero f = []
cut (suc n) f = take 120 f ∷ cut n (drop 120 f)

-- the record at index i, counted from 0
abbrev pub record_at : ℕ → List ℕ → List ℕ
record_at i f = take 120 (drop (120 * i) f)

-- all of them, in order
abbrev pub records_of : List ℕ → List (List ℕ)
records_of f = cut (length f / 120) f

-- those from index i on
abbrev pub records_from : ℕ → List ℕ → List (List ℕ)
records_from i f = cut (length f / 120 - i) (drop (120 * i) f)
