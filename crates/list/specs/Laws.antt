-- What is proved of writing a list and of reading a flow back. `proofs/` has its proof under the law's name in small letters. Assumes
-- nothing.
use Rattle.std.specs.Prelude.{ℕ, suc, ◌*◌, ◌≤◌, ◌<◌, ◌↔◌, ◌⊎◌, ◌≡◌, length, take}
use mathlib.Core.List.{List, ◌∷◌, ◌++◌, drop_last, flatten}
use Rattle.sequences.specs.All.{All}
use Rattle.sequences.specs.Pairs.{Pairs}
use Rattle.records.specs.Checked.{checked, Alike}
use Rattle.records.specs.Field.{field}
use Rattle.records.specs.Kinds.{type_of}
use Rattle.records.specs.Limits.{most_cents, most_records}
use Rattle.records.specs.declared.flow_kind.FlowKind.{FlowKind}
use Rattle.records.specs.declared.kind.RecordKind.{RecordKind}
use Rattle.records.specs.declared.kind.RecordKind.TheVariants.{Ef}
use Rattle.flow.specs.Judge.{judge}
use Rattle.flow.specs.Output.{FilledWith, LeftAlone}
use Rattle.flow.specs.Records.{record_at, records_of}
use Rattle.flow.specs.Verdict.{accepted, refused, refusal, of_call}
use Rattle.flow.specs.Verdict.{Refusal}
use Rattle.flow.specs.declared.answer.Refusal.{Refusal as Code-Refusal}
use Rattle.flow.specs.declared.answer.Totals.{Totals}
use Rattle.grammar.specs.Fault.{MayFollow, EachRight}
use Rattle.list.specs.Encode.{list_cents, list_totals, records_for, encode}
use Rattle.list.specs.Items.{Item, Proper, list_bytes, items, faulty, parse, items_in}
use Rattle.list.specs.Output.{filled_output}
use Rattle.list.specs.ReadBack.{gather, items_of, list_of, judge_room, read_back, Canonical}
use Rattle.list.specs.Table.{letter, carried, body_length, row_in}
use Rattle.list.specs.Write.{judge_list, write}
use Rattle.list.specs.declared.filled.Filled.{Filled}
use Rattle.list.specs.declared.table.ItemKind.{ItemKind}
use Rattle.std.specs.Prelude.{Some, Result}

-- the items that a list is read as are those that it is the bytes of
abbrev pub ItemsExact : Type 0
ItemsExact = (list : List ℕ) (is : List Item) → (parse list ≡ items is) ↔ ((list_bytes is ≡ list) × All Proper is)

-- one or more bytes that do not begin with an item: the kind is unknown, or the body is cut short
pub record NoItem (bytes : List ℕ) : Type 0 where
  pub byte : ℕ
  pub rest : List ℕ
  pub some : bytes ≡ byte ∷ rest
  pub short : (k : ItemKind) → letter k ≡ byte → length rest < body_length k

-- a list has a fault at item n exactly where items stand before it, and after them no item
pub record FaultyAt (list : List ℕ) (n : ℕ) : Type 0 where
  pub before : List Item
  pub rest : List ℕ
  pub bytes : list_bytes before ++ rest ≡ list
  pub proper : All Proper before
  pub none : NoItem rest
  pub number : suc (length before) ≡ n

abbrev pub FaultyExact : Type 0
FaultyExact = (list : List ℕ) (n : ℕ) → (parse list ≡ faulty n) ↔ FaultyAt list n

-- the items of a list, of which a flow has room for so many, and the output too
pub record Fitting (list : List ℕ) (room : ℕ) (is : List Item) : Type 0 where
  pub said : parse list ≡ items is
  pub few : suc (length is) ≤ most_records
  pub roomy : 120 * suc (length is) ≤ room

-- document 01's refusals of writing, each where those before it do not apply
pub data WriteFault (list : List ℕ) (room : ℕ) : Refusal → Type 0 where
  no_item : (n : ℕ) → FaultyAt list n → WriteFault list room (refusal 20 n 0)
  too_many : (is : List Item) → parse list ≡ items is → most_records < suc (length is) → WriteFault list room (of_call 1)
  no_room : (is : List Item) → parse list ≡ items is → suc (length is) ≤ most_records → room < 120 * suc (length is) → WriteFault list room (of_call 21)
  -- the reader's refusal of the records other than EF, in one of them
  in_record :
      (is : List Item) (x : Refusal) → Fitting list room is → judge (flatten (records_for is)) ≡ refused x → 1 ≤ x.«record» → x.«record» ≤ length is
      → WriteFault list room x
  -- each of them is right, and EF may not follow
  no_trailer :
      (is : List Item) → Fitting list room is → EachRight (flatten (records_for is)) (records_for is) → ¬ MayFollow (records_for is) Ef
      → WriteFault list room (refusal 3 (suc (length is)) 2)
  -- EF may follow, and its digits do not hold the total
  too_much :
      (is : List Item) → Fitting list room is → EachRight (flatten (records_for is)) (records_for is) → MayFollow (records_for is) Ef
      → most_cents < list_cents is → WriteFault list room (of_call 17)

abbrev pub WriteRefused : Type 0
WriteRefused = (list : List ℕ) (room : ℕ) (x : Refusal) → (judge_list list room ≡ refused x) ↔ WriteFault list room x

-- a list that is accepted: there is room, each record is right, EF may follow, and its digits hold the total. The totals answered are
-- the list's own
pub record WriteAccepts (list : List ℕ) (room : ℕ) (t : Totals) : Type 0 where
  pub these : List Item
  pub fits : Fitting list room these
  pub right : EachRight (flatten (records_for these)) (records_for these)
  pub follows : MayFollow (records_for these) Ef
  pub small : list_cents these ≤ most_cents
  pub totals : list_totals these ≡ t

abbrev pub WriteAccepted : Type 0
WriteAccepted = (list : List ℕ) (room : ℕ) (t : Totals) → (judge_list list room ≡ accepted t) ↔ WriteAccepts list room t

-- no list is refused by 9: the writer itself gives each record its number, and counts as the reader does
abbrev pub NumbersSupplied : Type 0
NumbersSupplied = (list : List ℕ) (room r p : ℕ) → ¬ (judge_list list room ≡ refused (refusal 9 r p))

-- nor by 22: the writer itself gives each record 14 the causale of the header meant, and a flow has one header
abbrev pub KindsSupplied : Type 0
KindsSupplied = (list : List ℕ) (room r p : ℕ) → ¬ (judge_list list room ≡ refused (refusal 22 r p))

-- what is judged is what is answered
abbrev pub WriteAnswers : Type 0
WriteAnswers = (list out : List ℕ) → (write list out).answer ≡ judge_list list (length out)

abbrev pub ReadBackAnswers : Type 0
ReadBackAnswers = (f out : List ℕ) → (read_back f out).answer ≡ judge_room f (length out)

-- an accepted writing leaves exactly the encoding, a refused one nothing
abbrev pub WriteLeaves : Type 0
WriteLeaves =
    (list out : List ℕ)
    → ((t : Totals) → judge_list list (length out) ≡ accepted t → FilledWith (write list out) (encode (items_in list)) out)
    × ((x : Refusal) → judge_list list (length out) ≡ refused x → LeftAlone (write list out) out)

-- what a list that is accepted encodes is a canonical flow that the reader accepts with the same totals, that has its length, and whose
-- list is the list written
abbrev pub WrittenExact : Type 0
WrittenExact =
    (list : List ℕ) (room : ℕ) (t : Totals) → judge_list list room ≡ accepted t → let flow = encode (items_in list) in
    (judge flow ≡ accepted t) × (list_of flow ≡ list) × Canonical flow × (length flow ≡ 120 * t.records) × (length flow ≤ room)

-- an accepted flow's own list has one item for each record but EF: its kind, by the flow's, then its carried bytes as they stand
abbrev pub OwnItem : FlowKind → List ℕ → Item → Type 0
OwnItem q rec it = (row_in q rec ≡ Some it.kind) × (it.body ≡ gather (carried it.kind) rec)

abbrev pub OwnList : Type 0
OwnList = (f : List ℕ) (t : Totals) → judge f ≡ accepted t → Pairs (OwnItem t.kind) (drop_last (records_of f)) (items_of f)

-- and says these items
abbrev pub OwnItems : Type 0
OwnItems = (f : List ℕ) (t : Totals) → judge f ≡ accepted t → parse (list_of f) ≡ items (items_of f)

-- reading back is accepted exactly where the reader accepts, with its totals, and there is room; and refused exactly where the reader
-- refuses, by the same, or by 21
abbrev pub ReadBackAccepted : Type 0
ReadBackAccepted = (f : List ℕ) (room : ℕ) (t : Totals) → (judge_room f room ≡ accepted t) ↔ ((judge f ≡ accepted t) × (length (list_of f) ≤ room))

abbrev pub ReadBackRefused : Type 0
ReadBackRefused =
    (f : List ℕ) (room : ℕ) (x : Refusal)
    → (judge_room f room ≡ refused x) ↔ ((judge f ≡ refused x) ⊎ ((t : Totals) × (judge f ≡ accepted t) × (room < length (list_of f)) × (x ≡ of_call 21)))

-- it leaves exactly the list, and where it is refused nothing
abbrev pub ReadBackLeaves : Type 0
ReadBackLeaves =
    (f out : List ℕ)
    → ((t : Totals) → judge_room f (length out) ≡ accepted t → FilledWith (read_back f out) (list_of f) out)
    × ((x : Refusal) → judge_room f (length out) ≡ refused x → LeftAlone (read_back f out) out)

-- an accepted flow's list, written again, is accepted with the same totals; a flow's total is one that EF's digits hold
abbrev pub RewrittenExact : Type 0
RewrittenExact = (f : List ℕ) (t : Totals) (room : ℕ) → judge f ≡ accepted t → length f ≤ room → judge_list (list_of f) room ≡ accepted t

-- and gives the same bytes exactly where the flow was canonical
abbrev pub RewrittenSame : Type 0
RewrittenSame =
    (f out : List ℕ) (t : Totals) → judge f ≡ accepted t → length f ≤ length out → let w = write (list_of f) out in
    (take w.written w.bytes ≡ f) ↔ Canonical f

-- an accepted flow and the encoding of its list have one length and one list, and differ only at positions that the table of checks does
-- not name
abbrev pub UncheckedOnly : Type 0
UncheckedOnly =
    (f : List ℕ) (t : Totals) → judge f ≡ accepted t → let again = encode (items_of f) in
    (length again ≡ length f) × (list_of again ≡ list_of f) × ((i : ℕ) (k : RecordKind) → i < t.records → field 2 3 (record_at i f) ≡ type_of k → Alike (checked k) (record_at i f) (record_at i again))

-- what an answer stands for on paper determines it
abbrev pub FilledDetermined : Type 0
FilledDetermined = (r s : Result Filled Code-Refusal) (out : List ℕ) → filled_output r out ≡ filled_output s out → r ≡ s
