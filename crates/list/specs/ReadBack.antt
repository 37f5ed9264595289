-- Reading a flow back to its list (document 01, "Our request list": the reader's refusals, then 21). Assumes nothing.
use Rattle.std.specs.Prelude.{ℕ, suc, ◌≡◌, length}
use mathlib.Core.List.{List, [], ◌∷◌, map, flatten}
use Rattle.records.specs.Field.{Span, field_at}
use Rattle.records.specs.declared.flow_kind.FlowKind.{FlowKind}
use Rattle.flow.specs.ExactTotals.{kind_of}
use Rattle.flow.specs.Judge.{judge}
use Rattle.flow.specs.Output.{Output, output, with_room}
use Rattle.flow.specs.Records.{records_of}
use Rattle.flow.specs.Verdict.{Verdict}
use Rattle.flow.specs.declared.answer.Totals.{Totals}
use Rattle.list.specs.Encode.{encode}
use Rattle.list.specs.Items.{Item, item, list_bytes}
use Rattle.list.specs.Table.{carried, body_length, row_in, with_row}
use Rattle.list.specs.declared.table.ItemKind.{ItemKind}
use Rattle.std.specs.Prelude.{Option}

-- the bytes of a record at spans, in order
abbrev pub gather : List Span → List ℕ → List ℕ
gather ss rec = flatten (map (λ (s : Span). field_at s rec) ss)

-- the item of a record of a flow of the kind: its kind, then its carried bytes as they stand; a record that the table does not have gives none
abbrev pub item_of : FlowKind → List ℕ → List Item
item_of q rec = with_row (row_in q rec) (λ (k : ItemKind). item k (gather (carried k) rec) ∷ []) []

-- for the contracts of private functions: the length of the item of a record of the row
abbrev pub item_length : Option ItemKind → ℕ
item_length row = with_row row (λ (k : ItemKind). suc (body_length k)) 0

-- a flow's own list, as items and as bytes: that of a flow of recalls opens with Q, and that of bytes without a 14 with H
abbrev pub items_of : List ℕ → List Item
items_of f = flatten (map (item_of (kind_of (records_of f))) (records_of f))

abbrev pub list_of : List ℕ → List ℕ
list_of f = list_bytes (items_of f)

-- the answer to a flow, with an output of so many bytes
unfoldable pub judge_room : List ℕ → ℕ → Verdict Totals
judge_room f room = with_room (judge f) (length (list_of f)) room

unfoldable pub read_back : List ℕ → List ℕ → Output Totals
read_back f out = output (judge_room f (length out)) (list_of f) out

-- document 01's "clean": equal to what its own list encodes
abbrev pub Canonical : List ℕ → Type 0
Canonical f = encode (items_of f) ≡ f
