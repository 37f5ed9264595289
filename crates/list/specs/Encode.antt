-- What a list encodes (document 01, "Our request list"; its word is "spells"): a record for each item in order, then EF. Assumes nothing.
use Rattle.std.specs.Prelude.{ℕ, suc, ◌+◌, ◌-◌, cond, ◌&&◌, leb, length, replicate, take, drop}
use mathlib.Core.List.{List, [], ◌∷◌, ◌++◌, flatten}
use Rattle.sequences.specs.Part.{part, put}
use Rattle.fields.specs.Digits.{number, digits}
use Rattle.records.specs.Amount.{amount_span}
use Rattle.records.specs.Constants.{currency}
use Rattle.records.specs.Field.{Span, ◌to◌, width, first_of}
use Rattle.records.specs.FlowKinds.{causale, sign, total_at}
use Rattle.records.specs.Kinds.{type_of, Role, Heads, Opens, GoesOn, Closes, role, heads, opened}
use Rattle.records.specs.declared.flow_kind.FlowKind.{FlowKind}
use Rattle.records.specs.declared.flow_kind.FlowKind.TheVariants.{Requests}
use Rattle.records.specs.declared.kind.RecordKind.TheVariants.{Ef}
use Rattle.flow.specs.declared.answer.Totals.{Totals}
use Rattle.list.specs.Items.{Item, record_kind, is_d}
use Rattle.list.specs.Table.{carried}
use Rattle.list.specs.declared.table.ItemKind.{ItemKind}
use Rattle.list.specs.declared.table.ItemKind.TheVariants.{H, D, S, C, B, A, R, X, K, Z}

-- bytes that stand in a record from a position on
pub data Placed : Type 0 where
  place : ℕ → List ℕ → Placed

-- a record with them written over it, one after the other
unfoldable pub fill : List Placed → List ℕ → List ℕ
fill [] rec = rec
fill (place p bs ∷ ps) rec = fill ps (put (p - 1) bs rec)

-- "a record begins as 120 blanks"
abbrev pub blanks : List ℕ
blanks = replicate 120 32

-- the index, in a body that carries the spans, of position p
abbrev pub index_in : List Span → ℕ → ℕ
index_in [] p = 0
index_in ((a to e) ∷ ss) p = cond (leb a p && leb p e) (p - a) (width (a to e) + index_in ss p)

-- positions a to e of its record, as a body of the kind carries them
abbrev pub carried_at : ItemKind → Span → List ℕ → List ℕ
carried_at k (a to e) body = part (index_in (carried k) a) (width (a to e)) body

-- what is copied from the body of an H or a Q, which carry the same: the ABI, 9-13, and for EF 4-45
abbrev pub abi_in : List ℕ → List ℕ
abi_in header = carried_at (H Requests) (9 to 13) header

abbrev pub copied_in : List ℕ → List ℕ
copied_in header = carried_at (H Requests) (4 to 45) header

-- what a record has beside its type and the carried bytes, by what it does in a flow of the kind: "its number", which IM has not, by its seven
-- digits, "the fixed 07000, -, E", or a recall's 07100 and +, and "the ABI copied from H to 14 at 48-52"; EF is no item's
abbrev pub supplied : Role → FlowKind → List ℕ → List ℕ → List Placed
supplied Heads q number abi = place 114 currency ∷ []
supplied Opens q number abi = place 4 number ∷ place 29 (causale q) ∷ place 47 (sign q) ∷ place 48 abi ∷ place 120 currency ∷ []
supplied GoesOn q number abi = place 4 number ∷ []
supplied Closes q number abi = []

-- "the carried bytes": the body over the spans, in order
unfoldable pub body_placed : List Span → List ℕ → List Placed
body_placed [] body = []
body_placed ((a to e) ∷ ss) body = place a (take (width (a to e)) body) ∷ body_placed ss (drop (width (a to e)) body)

-- the header meant by what comes after it: the latest H or Q, by its kind of flow and its body; where there is none, a request's without one
pub record HeaderMeant : Type 0 where
  pub kind : FlowKind
  pub body : List ℕ

abbrev pub header_meant : FlowKind → List ℕ → HeaderMeant
header_meant q body = record { kind = q; body = body }

abbrev pub no_header : HeaderMeant
no_header = header_meant Requests []

-- the record of an item, with the seven digits of its number and the header meant
abbrev pub encode_with : List ℕ → HeaderMeant → Item → List ℕ
encode_with number header it =
    let k = record_kind it in
    fill (place 2 (type_of k) ∷ (supplied (role k) header.kind number (abi_in header.body) ++ body_placed (carried it.kind) it.body)) blanks

unfoldable pub encode_item : ℕ → HeaderMeant → Item → List ℕ
encode_item n header it = encode_with (digits 7 n) header it

-- EF: 4-45 of the header, the counts, the sum at the place of the kind and zeros at the other, "E"
abbrev pub totals_placed : Totals → List Placed
totals_placed t =
    place 46 (digits 7 t.dispositions)
    ∷ place 53 (digits 15 (total_at t.kind 53 t.cents))
    ∷ place 68 (digits 15 (total_at t.kind 68 t.cents))
    ∷ place 83 (digits 7 t.records)
    ∷ []

abbrev pub trailer_placed : List ℕ → Totals → List Placed
trailer_placed copied t = place 2 (type_of Ef) ∷ place 4 copied ∷ (totals_placed t ++ (place 114 currency ∷ []))

-- with the body of the header meant and the totals of the flow
unfoldable pub encode_trailer : List ℕ → Totals → List ℕ
encode_trailer header t = fill (trailer_placed (copied_in header) t) blanks

-- the header meant after an item: itself where it is an H or a Q
abbrev pub kind_meant : FlowKind → ItemKind → FlowKind
kind_meant q (H p) = p
kind_meant q D = q
kind_meant q S = q
kind_meant q C = q
kind_meant q B = q
kind_meant q A = q
kind_meant q R = q
kind_meant q X = q
kind_meant q K = q
kind_meant q Z = q

abbrev pub body_meant : List ℕ → Item → List ℕ
body_meant body it = cond (heads (record_kind it)) it.body body

abbrev pub header_after : HeaderMeant → Item → HeaderMeant
header_after header it = record { kind = kind_meant header.kind it.kind; body = body_meant header.body it }

-- the records of items, after n dispositions and with the header meant
unfoldable pub encode_from : ℕ → HeaderMeant → List Item → List (List ℕ)
encode_from n header [] = []
encode_from n header (it ∷ is) =
    let number = n + opened (record_kind it) in
    encode_item number header it ∷ encode_from number (header_after header it) is

-- the header meant after all of them
unfoldable pub last_header : HeaderMeant → List Item → HeaderMeant
last_header header [] = header
last_header header (it ∷ is) = last_header (header_after header it) is

-- the amount of a D, what its 34-46 say: where these begin in its body, and their bytes
abbrev pub amount_index : ℕ
amount_index = index_in (carried D) (first_of amount_span)

abbrev pub amount_carried : List ℕ → List ℕ
amount_carried body = carried_at D amount_span body

-- the count of D items; and the sum of their amounts
unfoldable pub list_dispositions : List Item → ℕ
list_dispositions [] = 0
list_dispositions (it ∷ is) = opened (record_kind it) + list_dispositions is

abbrev pub item_amount : Item → ℕ
item_amount it = cond (is_d it) (number (amount_carried it.body)) 0

unfoldable pub list_cents : List Item → ℕ
list_cents [] = 0
list_cents (it ∷ is) = item_amount it + list_cents is

-- the totals of the flow that a list encodes: the kind that its H or Q gives, its D items, the sum of their amounts, and its items with EF
abbrev pub list_totals : List Item → Totals
list_totals is = record { kind = (last_header no_header is).kind; dispositions = list_dispositions is; cents = list_cents is; records = suc (length is) }

-- the records other than EF, and EF
abbrev pub records_for : List Item → List (List ℕ)
records_for is = encode_from 0 no_header is

abbrev pub trailer_for : List Item → List ℕ
trailer_for is = encode_trailer (last_header no_header is).body (list_totals is)

abbrev pub encode : List Item → List ℕ
encode is = flatten (records_for is ++ (trailer_for is ∷ []))
