-- When requests are the same (document 02, E7: "two requests are the same if their list items are the same bytes, numbers apart"). Assumes
-- nothing.
use Rattle.std.specs.Prelude.{ℕ, Bool, true, false, ◌&&◌, List, [], ◌∷◌}
use Rattle.fields.specs.Bytes.{is_equal}
use Rattle.records.specs.Field.{Span, field_at}
use Rattle.records.specs.Kinds.{has_type}
use Rattle.records.specs.declared.flow_kind.FlowKind.{FlowKind}
use Rattle.list.specs.Items.{Item, item_bytes}
use Rattle.list.specs.Table.{record_of, carried, row_in, with_row}
use Rattle.list.specs.declared.table.ItemKind.{ItemKind}

-- two items: the same kind byte and the same body
abbrev pub is_same : Item → Item → Bool
is_same x y = is_equal (item_bytes x) (item_bytes y)

-- items one by one, and as many
unfoldable pub are_same : List Item → List Item → Bool
are_same [] [] = true
are_same [] (y ∷ ys) = false
are_same (x ∷ xs) [] = false
are_same (x ∷ xs) (y ∷ ys) = is_same x y && are_same xs ys

-- two records have the same bytes at positions
unfoldable pub is_alike : List Span → List ℕ → List ℕ → Bool
is_alike [] rec other = true
is_alike (s ∷ ss) rec other = is_equal (field_at s rec) (field_at s other) && is_alike ss rec other

-- two records of flows of the kind carry the same: they have one type of the table, and the same bytes at the positions that it carries
abbrev pub carries_same : FlowKind → List ℕ → List ℕ → Bool
carries_same q rec other = with_row (row_in q rec) (λ (k : ItemKind). has_type (record_of k) other && is_alike (carried k) rec other) false
