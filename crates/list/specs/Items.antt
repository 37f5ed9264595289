-- A request list: items of one byte of kind and a body whose length the kind fixes (document 01, "Our request list"). Assumes nothing.
use Rattle.std.specs.Prelude.{Result, Ok, Err, ◌++◌, ℕ, zero, suc, ◌≤◌, Bool, cond, ◌≡◌, leb, length, take}
use mathlib.Core.List.{List, [], ◌∷◌, map, flatten}
use Rattle.records.specs.Kinds.{opens}
use Rattle.records.specs.Limits.{most_records}
use Rattle.records.specs.declared.kind.RecordKind.{RecordKind}
use Rattle.list.specs.Table.{letter, record_of, body_length, row_of, with_row}
use Rattle.list.specs.declared.table.ItemKind.{ItemKind}

pub record Item : Type 0 where
  pub kind : ItemKind
  pub body : List ℕ

abbrev pub item : ItemKind → List ℕ → Item
item k body = record { kind = k; body = body }

-- the kind of the record that an item encodes, and whether it opens a disposition: whether it is a D
abbrev pub record_kind : Item → RecordKind
record_kind it = record_of it.kind

abbrev pub is_d : Item → Bool
is_d it = opens (record_kind it)

-- an item with a body of its kind's length
pub record Proper (it : Item) : Type 0 where
  pub sized : length it.body ≡ body_length it.kind

-- an item, and items, as bytes
abbrev pub item_bytes : Item → List ℕ
item_bytes it = letter it.kind ∷ it.body

abbrev pub list_bytes : List Item → List ℕ
list_bytes is = flatten (map item_bytes is)

-- what bytes say: items; or the number, counted from 1, of the first that is none
pub data Parsed : Type 0 where
  items : List Item → Parsed
  faulty : ℕ → Parsed

-- an item, and what the bytes after it say
abbrev pub with_item : Item → Parsed → Parsed
with_item it (items is) = items (it ∷ is)
with_item it (faulty n) = faulty n

-- what bytes say that come after n items and begin with s bytes of the last one's body: an unknown kind or a body cut short is a fault
unfoldable pub items_from : ℕ → ℕ → List ℕ → Parsed
items_from n s [] = items []
items_from n zero (b ∷ bs) =
    with_row (row_of b)
    (λ (k : ItemKind). cond (leb (body_length k) (length bs)) (with_item (item k (take (body_length k) bs)) (items_from (suc n) (body_length k) bs)) (faulty (suc n)))
    (faulty (suc n))
items_from n (suc s) (b ∷ bs) = items_from n s bs

abbrev pub parse : List ℕ → Parsed
parse list = items_from 0 0 list

-- the items of a list; of a faulty one none
abbrev pub items_or : Parsed → List Item
items_or (items is) = is
items_or (faulty n) = []

abbrev pub items_in : List ℕ → List Item
items_in list = items_or (parse list)

-- for the contracts of private functions: how many items there are; bytes that are a list of no more items than a flow has room for; and the
-- item that bytes begin with, or none
abbrev pub item_count : Parsed → Result ℕ ℕ
item_count (items is) = Ok (length is)
item_count (faulty n) = Err n

pub record Listed (list : List ℕ) : Type 0 where
  pub said : parse list ≡ items (items_in list)
  pub few : suc (length (items_in list)) ≤ most_records

pub record FirstItem (list : List ℕ) (k : ItemKind) (body after : List ℕ) : Type 0 where
  pub said : (n : ℕ) → items_from n 0 list ≡ with_item (item k body) (items_from (suc n) 0 after)
  pub bytes : list ≡ letter k ∷ (body ++ after)

abbrev pub none_said : ℕ → List ℕ → Parsed
none_said n [] = items []
none_said n (b ∷ bs) = faulty (suc n)

pub record NoFirst (list : List ℕ) : Type 0 where
  pub said : (n : ℕ) → items_from n 0 list ≡ none_said n list
