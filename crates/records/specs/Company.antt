-- The company code of record 14 (document 01, table of checks, row 14: 92-96): on all or on none (document 02, E4). What a record's checks
-- are given of it is that of the first record 14, and no bytes at all where none came yet. Assumes nothing.
use Rattle.std.specs.Prelude.{ℕ, Bool, ◌||◌, List, eqb, length}
use Rattle.fields.specs.Bytes.{is_equal}
use Rattle.records.specs.Field.{Span, ◌to◌, field_at}

-- its positions
abbrev pub company_span : Span
company_span = 92 to 96

-- and what stands there
abbrev pub company_in : List ℕ → List ℕ
company_in rec = field_at company_span rec

-- no record 14 came yet
abbrev pub is_none : List ℕ → Bool
is_none company = eqb (length company) 0

-- `code` may stand where the first record 14 has `company`: the same bytes, blanks like any other; where no 14 came yet, any may
abbrev pub agrees : List ℕ → List ℕ → Bool
agrees company code = is_none company || is_equal code company
