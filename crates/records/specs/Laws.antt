-- What is proved of the record rules. `proofs/` has its proof under the law's name in small letters. Assumes nothing.
use Rattle.std.specs.Prelude.{ℕ, ◌<◌, true, false, List, ◌↔◌, ◌≡◌, length, Result}
use Rattle.fields.specs.Amount.{amount_field}
use Rattle.fields.specs.FieldVerdict.{accepted}
use Rattle.fields.specs.FieldVerdict.{refused as FieldVerdict-refused}
use Rattle.fields.specs.Digits.{is_digits, number}
use Rattle.records.specs.Amount.{amount_span, amount_in}
use Rattle.records.specs.Bytes.{bad_byte}
use Rattle.records.specs.Checked.{checked, Alike}
use Rattle.records.specs.Checks.{checks}
use Rattle.records.specs.Context.{Context}
use Rattle.records.specs.Field.{field, first_of}
use Rattle.records.specs.FlowKinds.{causale, kind_in}
use Rattle.records.specs.RecordVerdict.{right, refused, Check, Hold, FirstBroken, in_order, checks_at, judged_verdict}
use Rattle.records.specs.Judge.{asked, judge_as}
use Rattle.records.specs.Kinds.{type_of, opens, closes}
use Rattle.records.specs.Limits.{count_limit, cents_limit, saturated_context}
use Rattle.records.specs.QuickTest.{passes_quick_test}
use Rattle.records.specs.declared.flow_kind.FlowKind.{FlowKind}
use Rattle.records.specs.declared.judged.Fault.{Fault}
use Rattle.records.specs.declared.judged.Record.{Record}
use Rattle.records.specs.declared.kind.RecordKind.{RecordKind}
use Rattle.records.specs.declared.kind.RecordKind.TheVariants.{Ef}
use Rattle.std.specs.Prelude.{Some}

-- a type tells its kind: the eleven are different
abbrev pub TypesDiffer : Type 0
TypesDiffer = (k l : RecordKind) → type_of k ≡ type_of l → k ≡ l

-- the causale of a record tells the kind of flow, and each kind has its own
abbrev pub KindTold : Type 0
KindTold = (rec : List ℕ) (q : FlowKind) → (kind_in rec ≡ Some q) ↔ (field 29 33 rec ≡ causale q)

-- a record that is right is of the kind that it was judged as, and asks for that kind's cents
abbrev pub RightAsked : Type 0
RightAsked = (k l : RecordKind) (ctx : Context) (rec : List ℕ) (c : ℕ) → judge_as k ctx rec ≡ right l c → (k ≡ l) × (c ≡ asked k rec)

-- the checks of every kind stand in the order of document 01: rising position, and for one field 5 before what compares its digits; and of
-- document 02, E1: 6 before 22
abbrev pub ChecksInOrder : Type 0
ChecksInOrder = (k : RecordKind) (ctx : Context) (rec : List ℕ) → in_order (checks k ctx rec) ≡ true

-- and look at no other positions than those named
abbrev pub ChecksByPosition : Type 0
ChecksByPosition = (k : RecordKind) (ctx : Context) (rec other : List ℕ) → Alike (checked k) rec other → checks k ctx rec ≡ checks k ctx other

-- a record is right exactly where each check of its kind holds
abbrev pub RightExact : Type 0
RightExact = (k : RecordKind) (ctx : Context) (rec : List ℕ) → length rec ≡ 120 → (judge_as k ctx rec ≡ right k (asked k rec)) ↔ Hold (checks k ctx rec)

-- and refused exactly by the first that fails
abbrev pub BrokenExact : Type 0
BrokenExact = (k : RecordKind) (ctx : Context) (rec : List ℕ) (n p : ℕ) → length rec ≡ 120 → (judge_as k ctx rec ≡ refused n p) ↔ FirstBroken (checks k ctx rec) n p

-- checks say of a record's amount what the field's own rule does: it refuses by the number of the first of them that fails, and where
-- all hold it gives the number that stands there
pub record AmountBy (cs : List Check) (rec : List ℕ) : Type 0 where
  pub refuses : (n : ℕ) → (amount_field (amount_in rec) ≡ FieldVerdict-refused n) ↔ FirstBroken cs n (first_of amount_span)
  pub reads : (v : ℕ) → (amount_field (amount_in rec) ≡ accepted v) ↔ (Hold cs × (v ≡ number (amount_in rec)))

-- as those do that the table has at the amount's place
abbrev pub AmountRows : Type 0
AmountRows = (k : RecordKind) (ctx : Context) (rec : List ℕ) → opens k ≡ true → length rec ≡ 120 → AmountBy (checks_at (first_of amount_span) (checks k ctx rec)) rec

-- number 1 is given exactly to a record that is not 120 bytes long, at position 0
abbrev pub OneForLength : Type 0
OneForLength = (k : RecordKind) (ctx : Context) (rec : List ℕ) (p : ℕ) → (judge_as k ctx rec ≡ refused 1 p) ↔ ((p ≡ 0) × ¬ (length rec ≡ 120))

-- counts that stop where the digits end are judged as the exact ones are
abbrev pub SaturationUnseen : Type 0
SaturationUnseen = (k : RecordKind) (ctx : Context) (rec : List ℕ) → judge_as k (saturated_context ctx) rec ≡ judge_as k ctx rec

-- and of a right trailer they have not stopped
abbrev pub TrailerExact : Type 0
TrailerExact =
    (ctx : Context) (rec : List ℕ) (k : RecordKind) (c : ℕ) → judge_as Ef ctx rec ≡ right k c → (ctx.counts.dispositions < count_limit) × (ctx.counts.cents < cents_limit)

-- what an answer stands for on paper determines it
abbrev pub JudgedDetermined : Type 0
JudgedDetermined = (r s : Result Record Fault) → judged_verdict r ≡ judged_verdict s → r ≡ s

-- a record that passes the quick test is one inside a disposition, has the number handed in, and is right and asks for nothing where that is
-- digits and the one due
abbrev pub QuickTestRight : Type 0
QuickTestRight =
    (k : RecordKind) (digits rec : List ℕ) → passes_quick_test k digits rec ≡ true
    → (bad_byte rec ≡ 0) × (opens k ≡ false) × (closes k ≡ false) × (field 4 10 rec ≡ digits)
    × ((ctx : Context) → is_digits digits ≡ true → number digits ≡ ctx.counts.dispositions → judge_as k ctx rec ≡ right k 0)
