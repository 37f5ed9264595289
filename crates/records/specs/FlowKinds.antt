-- The kinds of flow (document 02, E1; source document 003, section 3): new requests, and recalls of requests already sent. What differs
-- between them is this table: the causale and the sign of record 14, and the place of the total in the trailer. Assumes nothing.
use Rattle.std.specs.Prelude.{ℕ, Bool, true, false, cond, List, [], ◌∷◌, eqb}
use Rattle.sequences.specs.Text.{text}
use Rattle.fields.specs.Bytes.{is_equal}
use Rattle.records.specs.Field.{Span, ◌to◌, field, first_of}
use Rattle.records.specs.declared.flow_kind.FlowKind.{FlowKind}
use Rattle.records.specs.declared.flow_kind.FlowKind.TheVariants.{Requests, Recalls}
use Rattle.std.specs.Prelude.{Option, Some, None}

-- all of them
abbrev pub flow_kinds : List FlowKind
flow_kinds = Requests ∷ Recalls ∷ []

-- the table's first column: 29-33 of record 14
abbrev pub causale : FlowKind → List ℕ
causale Requests = text "07000"
causale Recalls = text "07100"

-- its second: 47 of record 14
abbrev pub sign : FlowKind → List ℕ
sign Requests = text "-"
sign Recalls = text "+"

-- its third: the positions of the total in EF
abbrev pub total_span : FlowKind → Span
total_span Requests = 53 to 67
total_span Recalls = 68 to 82

-- what EF says in the field that starts at position p: the sum at the kind's place, and zero at the other
abbrev pub total_at : FlowKind → ℕ → ℕ → ℕ
total_at q p cents = cond (eqb p (first_of (total_span q))) cents 0

-- the first of the kinds that has the causale, where one does
unfoldable pub kind_among : List FlowKind → List ℕ → Option FlowKind
kind_among [] bs = None
kind_among (q ∷ qs) bs = cond (is_equal bs (causale q)) (Some q) (kind_among qs bs)

-- the kind of flow that a record 14 stands in, by its causale
abbrev pub kind_in : List ℕ → Option FlowKind
kind_in rec = kind_among flow_kinds (field 29 33 rec)

abbrev pub is_known : Option FlowKind → Bool
is_known (Some q) = true
is_known None = false

-- a causale may stand in a flow of the kind found so far: where none is, in any
abbrev pub is_of : Option FlowKind → List ℕ → Bool
is_of (Some q) bs = is_equal bs (causale q)
is_of None bs = true

-- the kind found, and requests where none is
abbrev pub or_requests : Option FlowKind → FlowKind
or_requests (Some q) = q
or_requests None = Requests

-- the kind that was found first
abbrev pub first_known : Option FlowKind → Option FlowKind → Option FlowKind
first_known (Some q) later = Some q
first_known None later = later
