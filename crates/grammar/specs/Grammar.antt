-- The grammar of a flow of requests or of recalls: a header; one or more dispositions in the stated order, numbered 1, 2, 3 .., all of one
-- kind and with one company code; a trailer with their exact count, sum and record count; and every field rule (document 01, "The flow as
-- bytes"; document 02, E1 and E4). Assumes nothing.
use Rattle.std.specs.Prelude.{ℕ, ◌+◌, ◌≤◌, ◌≡◌, length, get_or}
use mathlib.Core.List.{List, [], ◌++◌, map, flatten, Memᴰ}
use Rattle.sequences.specs.All.{All}
use Rattle.sequences.specs.Counted.{Counted}
use Rattle.sequences.specs.Sum.{sum}
use Rattle.fields.specs.Digits.{number}
use Rattle.records.specs.Amount.{amount_in}
use Rattle.records.specs.Context.{header_of}
use Rattle.records.specs.Company.{company_in}
use Rattle.records.specs.declared.flow_kind.FlowKind.{FlowKind}
use Rattle.records.specs.declared.kind.RecordKind.{RecordKind}
use Rattle.records.specs.declared.kind.RecordKind.TheVariants.{Im, Ef}
use Rattle.flow.specs.declared.answer.Totals.{Totals}
use Rattle.grammar.specs.Rules.{Formed, HeaderRules, KindRules, MemberRules, TrailerRules}
use Rattle.grammar.specs.Shape.{Disposition}

-- a record with its kind
pub record Typed : Type 0 where
  pub kind : RecordKind
  pub bytes : List ℕ

-- a flow taken apart: its kind, the header, the dispositions as lists of records, the trailer
pub record Parts : Type 0 where
  pub kind : FlowKind
  pub header : List ℕ
  pub dispositions : List (List Typed)
  pub trailer : List ℕ

abbrev pub kinds_of : List Typed → List RecordKind
kinds_of d = map (λ (r : Typed). r.kind) d

abbrev pub records_in : List Typed → List (List ℕ)
records_in d = map (λ (r : Typed). r.bytes) d

-- the record that opens a disposition; its amount, and its company code
abbrev pub opening : List Typed → List ℕ
opening d = get_or (records_in d) 0 []

abbrev pub disposition_amount : List Typed → ℕ
disposition_amount d = number (amount_in (opening d))

abbrev pub disposition_code : List Typed → List ℕ
disposition_code d = company_in (opening d)

-- the flow put together again
abbrev pub bytes_of : Parts → List ℕ
bytes_of p = p.header ++ (flatten (map (λ (d : List Typed). flatten (records_in d)) p.dispositions) ++ p.trailer)

-- the exact sums: dispositions, their amounts, and records with header and trailer
abbrev pub disposition_count : Parts → ℕ
disposition_count p = length p.dispositions

abbrev pub total_cents : Parts → ℕ
total_cents p = sum (map disposition_amount p.dispositions)

abbrev pub record_count : Parts → ℕ
record_count p = 2 + sum (map (λ (d : List Typed). length d) p.dispositions)

abbrev pub parts_totals : Parts → Totals
parts_totals p = record { kind = p.kind; dispositions = disposition_count p; cents = total_cents p; records = record_count p }

-- the n-th disposition of a flow whose header has the ABI
pub record RightDisposition (abi : List ℕ) (n : ℕ) (d : List Typed) : Type 0 where
  pub order : Disposition (kinds_of d)
  pub records : All (λ (r : Typed). Formed r.kind r.bytes × MemberRules r.kind abi n r.bytes) d

-- dispositions numbered from n on
abbrev pub RightDispositions : List ℕ → ℕ → List (List Typed) → Type 0
RightDispositions abi n ds = Counted (RightDisposition abi) n ds

-- company codes of which any two are the same bytes
abbrev pub AllEqual : List (List ℕ) → Type 0
AllEqual codes = (a b : List ℕ) → Memᴰ a codes → Memᴰ b codes → a ≡ b

pub record RightParts (p : Parts) : Type 0 where
  pub header_formed : Formed Im p.header
  pub header_rules : HeaderRules p.header
  pub some : 1 ≤ disposition_count p
  pub each : RightDispositions (header_of p.header).abi 1 p.dispositions
  -- "company code on all or on none"
  pub codes : AllEqual (map disposition_code p.dispositions)
  -- "new requests and recalls may not share a flow"
  pub kinds : All (KindRules p.kind) (map opening p.dispositions)
  pub trailer_formed : Formed Ef p.trailer
  pub trailer_rules : TrailerRules (header_of p.header) (parts_totals p) p.trailer

-- the bytes f are a right flow, and these are its totals. The ceiling of 9,999,999 records is no rule of its own: the
-- trailer's seven digits say the count
pub record Grammar (f : List ℕ) (t : Totals) : Type 0 where
  pub parts : Parts
  pub bytes : bytes_of parts ≡ f
  pub right : RightParts parts
  pub totals : parts_totals parts ≡ t
