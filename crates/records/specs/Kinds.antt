-- The eleven record types (document 01, "The flow as bytes": the record type is at 2-3). Assumes nothing.
use Rattle.std.specs.Prelude.{ℕ, Bool, true, false, cond, List}
use Rattle.sequences.specs.Text.{text}
use Rattle.fields.specs.Bytes.{is_equal}
use Rattle.records.specs.Field.{field}
use Rattle.records.specs.declared.kind.RecordKind.{RecordKind}
use Rattle.records.specs.declared.kind.RecordKind.TheVariants.{Im, R14, R16, R20, R30, R40, R50, R59, R51, R70, Ef}

-- the type as it stands in a record
abbrev pub type_of : RecordKind → List ℕ
type_of Im = text "IM"
type_of R14 = text "14"
type_of R16 = text "16"
type_of R20 = text "20"
type_of R30 = text "30"
type_of R40 = text "40"
type_of R50 = text "50"
type_of R59 = text "59"
type_of R51 = text "51"
type_of R70 = text "70"
type_of Ef = text "EF"

abbrev pub has_type : RecordKind → List ℕ → Bool
has_type k rec = is_equal (field 2 3 rec) (type_of k)

-- the record opens a disposition, by its type alone
abbrev pub is_opening : List ℕ → Bool
is_opening = has_type R14

-- what a record does in a flow: it heads the flow, opens a disposition, goes on with it, or closes the flow
pub data Role : Type 0 where
  Heads : Role
  Opens : Role
  GoesOn : Role
  Closes : Role

-- by its kind (document 01, "The flow as bytes": IM; then dispositions, each from its 14 on; then EF)
abbrev pub role : RecordKind → Role
role Im = Heads
role R14 = Opens
role R16 = GoesOn
role R20 = GoesOn
role R30 = GoesOn
role R40 = GoesOn
role R50 = GoesOn
role R59 = GoesOn
role R51 = GoesOn
role R70 = GoesOn
role Ef = Closes

-- of four values the one for the role
abbrev pub by_role : {A : Type 0} → Role → A → A → A → A → A
by_role Heads h o g c = h
by_role Opens h o g c = o
by_role GoesOn h o g c = g
by_role Closes h o g c = c

-- the record that heads a flow
abbrev pub heads : RecordKind → Bool
heads k = by_role (role k) true false false false

-- the record that opens a disposition, and has its amount
abbrev pub opens : RecordKind → Bool
opens k = by_role (role k) false true false false

-- a record that goes on with a disposition
abbrev pub goes_on : RecordKind → Bool
goes_on k = by_role (role k) false false true false

-- the record that closes a flow
abbrev pub closes : RecordKind → Bool
closes k = by_role (role k) false false false true

-- the dispositions that it opens: one or none
abbrev pub opened : RecordKind → ℕ
opened k = cond (opens k) 1 0
