-- Document 01's table of kinds ("Our request list"), with the Q of document 02, E1: for each kind of item its kind byte, its record and the
-- positions that its body carries. Writing and reading back both go by it. Assumes nothing.
use Rattle.std.specs.Prelude.{ℕ, Bool, cond, List, [], ◌∷◌, map, eqb}
use Rattle.sequences.specs.Sum.{sum}
use Rattle.sequences.specs.Text.{byte}
use Rattle.records.specs.Field.{Span, ◌to◌, width}
use Rattle.records.specs.Kinds.{has_type}
use Rattle.records.specs.declared.flow_kind.FlowKind.{FlowKind}
use Rattle.records.specs.declared.flow_kind.FlowKind.TheVariants.{Requests, Recalls}
use Rattle.records.specs.declared.kind.RecordKind.{RecordKind}
use Rattle.records.specs.declared.kind.RecordKind.TheVariants.{Im, R14, R16, R20, R30, R40, R50, R59, R51, R70}
use Rattle.list.specs.declared.table.ItemKind.{ItemKind}
use Rattle.list.specs.declared.table.ItemKind.TheVariants.{H, D, S, C, B, A, R, X, K, Z}
use Rattle.std.specs.Prelude.{Option, Some, None}

-- the kinds of item of a flow of the kind, in the table's order; H stands for the header's item of any kind of flow
abbrev pub rows_of : FlowKind → List ItemKind
rows_of q = H q ∷ D ∷ S ∷ C ∷ B ∷ A ∷ R ∷ X ∷ K ∷ Z ∷ []

-- all of them: the other kinds have the same items, but for the header's
abbrev pub rows : List ItemKind
rows = H Recalls ∷ rows_of Requests

-- the table's first column: the kind byte, which for a header's item tells the kind of flow
abbrev pub header_letter : FlowKind → ℕ
header_letter Requests = byte "H"
header_letter Recalls = byte "Q"

abbrev pub letter : ItemKind → ℕ
letter (H q) = header_letter q
letter D = byte "D"
letter S = byte "S"
letter C = byte "C"
letter B = byte "B"
letter A = byte "A"
letter R = byte "R"
letter X = byte "X"
letter K = byte "K"
letter Z = byte "Z"

-- its second: the record
abbrev pub record_of : ItemKind → RecordKind
record_of (H q) = Im
record_of D = R14
record_of S = R16
record_of C = R20
record_of B = R30
record_of A = R40
record_of R = R50
record_of X = R59
record_of K = R51
record_of Z = R70

-- its third: the carried positions
abbrev pub carried : ItemKind → List Span
carried (H q) = (4 to 45) ∷ (105 to 111) ∷ []
carried D = (23 to 28) ∷ (34 to 46) ∷ (53 to 69) ∷ (92 to 113) ∷ []
carried S = (11 to 37) ∷ []
carried C = (11 to 106) ∷ []
carried B = (11 to 86) ∷ []
carried A = (11 to 120) ∷ []
carried R = (11 to 120) ∷ []
carried X = (11 to 120) ∷ []
carried K = (11 to 120) ∷ []
carried Z = (94 to 94) ∷ (96 to 120) ∷ []

-- its last, the length of a body: as many bytes as positions are carried
abbrev pub body_length : ItemKind → ℕ
body_length k = sum (map width (carried k))

-- for the contract of a private function: the spans as the code has them, each by its first and its last position
abbrev pub pair_of : Span → ℕ × ℕ
pair_of (a to e) = (a, e)

abbrev pub carried_pairs : ItemKind → List (ℕ × ℕ)
carried_pairs k = map pair_of (carried k)

-- the first row that passes a test, where one does
unfoldable pub first_row : (ItemKind → Bool) → List ItemKind → Option ItemKind
first_row p [] = None
first_row p (k ∷ ks) = cond (p k) (Some k) (first_row p ks)

-- the row of a kind byte, and that of a record of a flow of the kind, by its type
abbrev pub row_of : ℕ → Option ItemKind
row_of b = first_row (λ (k : ItemKind). eqb b (letter k)) rows

abbrev pub row_in : FlowKind → List ℕ → Option ItemKind
row_in q rec = first_row (λ (k : ItemKind). has_type (record_of k) rec) (rows_of q)

-- what is made of a row, and what stands where there is none
abbrev pub with_row : {T : Type 0} → Option ItemKind → (ItemKind → T) → T → T
with_row (Some k) some none = some k
with_row None some none = none
