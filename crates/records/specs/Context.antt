-- What a record's rules need from elsewhere in the flow. Assumes nothing.
use Rattle.std.specs.Prelude.{ℕ, List}
use Rattle.records.specs.Field.{field}
use Rattle.records.specs.declared.judged.Counts.{Counts}
use Rattle.records.specs.declared.flow_kind.FlowKind.{FlowKind}
use Rattle.std.specs.Prelude.{Option}

-- the header's fields that later records are compared with
pub record Header : Type 0 where
  pub mittente : List ℕ
  pub abi : List ℕ
  pub date : List ℕ
  pub name : List ℕ
  pub currency : List ℕ

-- the fields as they stand in record IM, whatever else stands in it
abbrev pub header_of : List ℕ → Header
header_of rec = record { mittente = field 4 8 rec; abi = field 9 13 rec; date = field 14 19 rec; name = field 20 39 rec; currency = field 114 114 rec }

-- the header; the company code and the kind of flow as the first record 14 has told them, no bytes and `None` where none came before
-- this record; and the counts: dispositions up to and with this record, the cents of the amounts before it, records up to and with it
pub record Context : Type 0 where
  pub header : Header
  pub company : List ℕ
  pub kind : Option FlowKind
  pub counts : Counts

abbrev pub context : Header → List ℕ → Option FlowKind → Counts → Context
context header company kind counts = record { header = header; company = company; kind = kind; counts = counts }
