-- Document 01's table of checks, with the kinds of flow of document 02, E1, and its E5, an amount above zero, as what is true of a right record:
-- for each row a statement, field by field, with no order, no number and no test. Assumes nothing.
use Rattle.std.specs.Prelude.{ℕ, ◌≤◌, ◌⊎◌, ◌≡◌, length}
use mathlib.Core.List.{List, Memᴰ}
use Rattle.sequences.specs.All.{All}
use Rattle.sequences.specs.Text.{text}
use Rattle.fields.specs.Calendar.{Gregorian}
use Rattle.fields.specs.Date.{day_of}
use Rattle.fields.specs.Digits.{number}
use Rattle.records.specs.Amount.{amount_in}
use Rattle.records.specs.Constants.{currency}
use Rattle.records.specs.Context.{Header}
use Rattle.records.specs.Field.{field, byte_at}
use Rattle.records.specs.Kinds.{type_of}
use Rattle.records.specs.declared.flow_kind.FlowKind.{FlowKind}
use Rattle.records.specs.declared.flow_kind.FlowKind.TheVariants.{Requests, Recalls}
use Rattle.records.specs.declared.kind.RecordKind.{RecordKind}
use Rattle.records.specs.declared.kind.RecordKind.TheVariants.{Im, R14, R16, R20, R30, R40, R50, R59, R51, R70, Ef}
use Rattle.flow.specs.declared.answer.Totals.{Totals}

-- "digits": every byte is 0 to 9
abbrev pub Digits : List ℕ → Type 0
Digits bs = All (λ b. (48 ≤ b) × (b ≤ 57)) bs

abbrev pub Blank : List ℕ → Type 0
Blank bs = All (λ b. b ≡ 32) bs

-- "present": not all blanks
abbrev pub Present : List ℕ → Type 0
Present bs = ¬ Blank bs

-- GGMMAA, a true calendar day
abbrev pub CalendarDay : List ℕ → Type 0
CalendarDay bs = Digits bs × Gregorian (day_of bs)

-- a digit field that says v
abbrev pub Says : ℕ → List ℕ → Type 0
Says v bs = Digits bs × (number bs ≡ v)

abbrev pub Printable : ℕ → Type 0
Printable b = (32 ≤ b) × (b ≤ 126)

-- 120 bytes, each of 32 to 126, with the type of the kind at 2-3
pub record Formed (k : RecordKind) (rec : List ℕ) : Type 0 where
  pub whole : length rec ≡ 120
  pub printable : All Printable rec
  pub type : field 2 3 rec ≡ type_of k

-- row IM
pub record HeaderRules (rec : List ℕ) : Type 0 where
  pub mittente : Present (field 4 8 rec)
  pub ricevente : Digits (field 9 13 rec)
  pub created : CalendarDay (field 14 19 rec)
  pub name : Present (field 20 39 rec)
  pub qualifier : Blank (field 105 111 rec) ⊎ ((field 105 105 rec ≡ text "1") × (field 106 106 rec ≡ text "$") × Digits (field 107 111 rec))
  pub currency_code : field 114 114 rec ≡ currency

-- row 14 but for its number, its company code and what goes by the kind of flow
pub record DispositionRules (abi rec : List ℕ) : Type 0 where
  pub payable : CalendarDay (field 23 28 rec)
  pub amount : Digits (amount_in rec) × (1 ≤ number (amount_in rec))
  pub bank : Digits (field 48 52 rec) × (field 48 52 rec ≡ abi)
  pub branch : Blank (field 53 57 rec) ⊎ Digits (field 53 57 rec)
  pub code_type : Memᴰ (byte_at 97 rec) (text " 1234569")
  pub currency_code : field 120 120 rec ≡ currency

-- which is the causale and the sign: a request debits the student, a recall takes that back (source document 003, section 3)
abbrev pub KindRules : FlowKind → List ℕ → Type 0
KindRules Requests rec = (field 29 33 rec ≡ text "07000") × (field 47 47 rec ≡ text "-")
KindRules Recalls rec = (field 29 33 rec ≡ text "07100") × (field 47 47 rec ≡ text "+")

-- row 16 but for its number
pub record CoordinatesRules (abi rec : List ℕ) : Type 0 where
  pub country : (field 11 12 rec ≡ text "IT") ⊎ (field 11 12 rec ≡ text "SM")
  pub check-digits : Digits (field 13 14 rec)
  pub cin : Present (field 15 15 rec)
  pub bank : Digits (field 16 20 rec) × (field 16 20 rec ≡ abi)
  pub branch : Digits (field 21 25 rec) × (1 ≤ number (field 21 25 rec))
  pub account : Present (field 26 37 rec)

-- what a record of a disposition keeps beside its number; the header and the trailer stand in no disposition
abbrev pub BesideNumber : RecordKind → List ℕ → List ℕ → Type 0
BesideNumber Im abi rec = ⊥
BesideNumber R14 abi rec = DispositionRules abi rec
BesideNumber R16 abi rec = CoordinatesRules abi rec
BesideNumber R20 abi rec = Present (field 11 34 rec)
BesideNumber R30 abi rec = Present (field 11 40 rec)
BesideNumber R40 abi rec = Unit
BesideNumber R50 abi rec = Unit
BesideNumber R59 abi rec = Present (field 11 65 rec)
BesideNumber R51 abi rec = Unit
BesideNumber R70 abi rec = Memᴰ (byte_at 94 rec) (text " PB")
BesideNumber Ef abi rec = ⊥

-- a record of the n-th disposition
pub record MemberRules (k : RecordKind) (abi : List ℕ) (n : ℕ) (rec : List ℕ) : Type 0 where
  pub number-said : Says n (field 4 10 rec)
  pub others : BesideNumber k abi rec

-- 53-82 of row EF: the sum at the place of the kind, and zeros at the other
abbrev pub TotalRules : FlowKind → ℕ → List ℕ → Type 0
TotalRules Requests cents rec = Says cents (field 53 67 rec) × Says 0 (field 68 82 rec)
TotalRules Recalls cents rec = Says 0 (field 53 67 rec) × Says cents (field 68 82 rec)

-- row EF: copies of the header, and the exact totals
pub record TrailerRules (header : Header) (t : Totals) (rec : List ℕ) : Type 0 where
  pub mittente : field 4 8 rec ≡ header.mittente
  pub ricevente : field 9 13 rec ≡ header.abi
  pub created : field 14 19 rec ≡ header.date
  pub name : field 20 39 rec ≡ header.name
  pub dispositions-said : Says t.dispositions (field 46 52 rec)
  pub cents_said : TotalRules t.kind t.cents rec
  pub records-said : Says t.records (field 83 89 rec)
  pub currency_code : field 114 114 rec ≡ header.currency
