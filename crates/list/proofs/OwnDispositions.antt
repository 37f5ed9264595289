-- The list of a flow, disposition by disposition. Assumes nothing.
use Prim.Native.Nat.{ℕ}
use mathlib.Core.Bool.{false}
use mathlib.Core.List.{List, [], ◌∷◌, map, flatten}
use mathlib.Core.Path.{◌≡◌, refl, ◌∙◌, ap}
use Rattle.sequences.specs.All.{All}
use Rattle.sequences.specs.Groups.{lead, groups}
use Rattle.sequences.proofs.Flatten.{map-flatten}
use Rattle.sequences.proofs.Groups.{Opens, lead_joined, groups_joined}
use Rattle.records.specs.Kinds.{opens}
use Rattle.records.specs.declared.flow_kind.FlowKind.{FlowKind}
use Rattle.records.specs.declared.kind.RecordKind.{RecordKind}
use Rattle.records.specs.declared.kind.RecordKind.TheVariants.{Im}
use Rattle.flow.specs.declared.answer.Totals.{Totals}
use Rattle.grammar.specs.Grammar.{Typed, kinds_of, Grammar}
use Rattle.grammar.proofs.Dispositions.{Detail, each_detail, detail_opens, Opened, opened_by, opened_so, InShape}
use Rattle.grammar.proofs.Grammar.{grammar_shape}
use Rattle.list.specs.Items.{Item, is_d}
use Rattle.list.specs.ReadBack.{items_of}
use Rattle.list.specs.Table.{record_of}
use Rattle.list.proofs.RecordsAgain.{kind_for, own_item}
use Rattle.list.proofs.Rewritten.{own_list_items}

-- the items of dispositions
abbrev pub items_by : FlowKind → List (List Typed) → List (List Item)
items_by q ds = map (map (own_item q)) ds

-- the item of a header
abbrev pub item_of_header : FlowKind → List ℕ → Item
item_of_header q header = own_item q (record { kind = Im; bytes = header })

-- a record of a disposition but the first is that of its own item
pub detail_record : (q : FlowKind) (k : RecordKind) → Detail k → record_of (kind_for q k) ≡ k
detail_record q = each_detail (λ (k : RecordKind). record_of (kind_for q k) ≡ k) (refl, (refl, (refl, (refl, (refl, (refl, (refl, (refl, tt))))))))

pub detail_shut : (q : FlowKind) (k : RecordKind) → Detail k → opens (record_of (kind_for q k)) ≡ false
detail_shut q k detail = ap opens (detail_record q k detail) ∙ detail_opens k detail

-- a disposition's items: a D, and others that are none
details_shut : (q : FlowKind) (rs : List Typed) → All Detail (kinds_of rs) → All (λ (it : Item). is_d it ≡ false) (map (own_item q) rs)
details_shut q [] details = tt
details_shut q (r ∷ rs) details = (detail_shut q r.kind details.0, details_shut q rs details.1)

items_open : (q : FlowKind) (ds : List (List Typed)) → InShape ds → All (Opens is_d) (items_by q ds)
items_open q [] shape = tt
items_open q (d ∷ ds) shape = (go d (opened_so d shape.0), items_open q ds shape.1)
  where
    go : (d : List Typed) → Opened d → Opens is_d (map (own_item q) d)
    go d (opened_by r rs e details) = record { first = own_item q r; others = map (own_item q) rs; whole = refl; passes = ap (λ (k : RecordKind). opens (record_of (kind_for q k))) e; none = details_shut q rs details }

-- so the list of a flow is its header's item and its dispositions', which are found there again
module _ (f : List ℕ) (t : Totals) (g : Grammar f t) where
  abbrev q : FlowKind
  q = t.kind

  abbrev head : Item
  head = item_of_header q g.parts.header

  abbrev ds : List (List Typed)
  ds = g.parts.dispositions

  pub listed_so : items_of f ≡ head ∷ flatten (items_by q ds)
  listed_so = own_list_items f t g ∙ ap (λ (l : List Item). head ∷ l) (map-flatten (own_item q) ds)

  pub head_so : lead is_d (items_of f) ≡ head ∷ []
  unfolding lead
  head_so = ap (lead is_d) listed_so ∙ ap (λ (l : List Item). head ∷ l) (lead_joined is_d (items_by q ds) (items_open q ds (grammar_shape f t g)))

  pub dispositions_so : groups is_d (items_of f) ≡ items_by q ds
  unfolding groups
  dispositions_so = ap (groups is_d) listed_so ∙ groups_joined is_d (items_by q ds) (items_open q ds (grammar_shape f t g))
