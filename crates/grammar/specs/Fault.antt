-- The first fault of a flow, said without looking for it (document 01, "Numbers a clerk may see": 1; then the lowest record; inside it 2
-- at the lowest byte, then 3, then rising field position; 4 where every record present is right). Assumes nothing.
use Rattle.std.specs.Prelude.{ℕ, suc, ◌+◌, cond, List, [], ◌∷◌, ◌++◌, map, ◌≡◌, length, take}
use Rattle.sequences.specs.All.{All}
use Rattle.records.specs.Checks.{checks}
use Rattle.records.specs.Company.{company_in}
use Rattle.records.specs.Context.{Context, context, header_of}
use Rattle.records.specs.Field.{field}
use Rattle.records.specs.RecordVerdict.{Hold, FirstBroken}
use Rattle.records.specs.Kinds.{type_of, is_opening, opens}
use Rattle.records.specs.declared.kind.RecordKind.{RecordKind}
use Rattle.flow.specs.Records.{RightLength, records_of}
use Rattle.flow.specs.ExactTotals.{opening_count, amount_sum, kind_from}
use Rattle.flow.specs.Verdict.{refusal, of_call}
use Rattle.flow.specs.Verdict.{Refusal}
use Rattle.grammar.specs.Rules.{Printable}
use Rattle.grammar.specs.Shape.{InOrder}
use Rattle.std.specs.Prelude.{None}

-- the types of the records are those of the kinds
abbrev pub HaveKinds : List RecordKind → List (List ℕ) → Type 0
HaveKinds ks recs = map type_of ks ≡ map (field 2 3) recs

-- a record of the kind may stand after the records: some flow in the stated order goes on so
pub record MayFollow (before : List (List ℕ)) (k : RecordKind) : Type 0 where
  pub kinds : List RecordKind
  pub rest : List RecordKind
  pub have : HaveKinds kinds before
  pub order : InOrder (kinds ++ (k ∷ rest))

-- the company code of the first record 14 among records, and no bytes where there is no 14
unfoldable pub company_of : List (List ℕ) → List ℕ
company_of [] = []
company_of (rec ∷ recs) = cond (is_opening rec) (company_in rec) (company_of recs)

-- what the checks of a record of the kind are asked with, after the records `before` of the flow f
abbrev pub context_after : List ℕ → List (List ℕ) → RecordKind → Context
context_after f before k =
    context (header_of (take 120 f)) (company_of before) (kind_from None before)
    (record { dispositions = opening_count before + cond (opens k) 1 0; cents = amount_sum before; records = suc (length before) })

-- the record keeps its rules where the records `before` of the flow f stand before it
pub record RightRecord (f : List ℕ) (before : List (List ℕ)) (rec : List ℕ) : Type 0 where
  pub kind : RecordKind
  pub printable : All Printable rec
  pub type : field 2 3 rec ≡ type_of kind
  pub permitted : MayFollow before kind
  pub keeps : Hold (checks kind (context_after f before kind) rec)

-- so does each of the records, from the front of the flow f
abbrev pub EachRight : List ℕ → List (List ℕ) → Type 0
EachRight f recs = (before : List (List ℕ)) (rec : List ℕ) (after : List (List ℕ)) → recs ≡ before ++ (rec ∷ after) → RightRecord f before rec

-- a fault of a record, by number and position, where the kinds that may stand there are given, and what their checks are asked with:
-- each excludes those before it
pub data Fault (may : RecordKind → Type 0) (asked : RecordKind → Context) (rec : List ℕ) : ℕ → ℕ → Type 0 where
  -- a byte outside 32 to 126, and none before it
  bad_byte_lem : (bs : List ℕ) (b : ℕ) (cs : List ℕ) → rec ≡ bs ++ (b ∷ cs) → All Printable bs → ¬ Printable b → Fault may asked rec 2 (suc (length bs))
  -- a type that may not stand there
  wrong_type : All Printable rec → ((k : RecordKind) → field 2 3 rec ≡ type_of k → ¬ may k) → Fault may asked rec 3 2
  -- a check of the table that fails, and those before it hold
  broken : (k : RecordKind) (n p : ℕ) → All Printable rec → field 2 3 rec ≡ type_of k → may k → FirstBroken (checks k (asked k) rec) n p → Fault may asked rec n p

-- a fault after the records `before` of the flow f
abbrev pub FaultAfter : List ℕ → List (List ℕ) → List ℕ → ℕ → ℕ → Type 0
FaultAfter f before rec n p = Fault (MayFollow before) (context_after f before) rec n p

-- the first fault of a flow, by number, record and position
pub data FirstFault (f : List ℕ) : Refusal → Type 0 where
  wrong_length : ¬ RightLength (length f) → FirstFault f (of_call 1)
  in_record :
      (before : List (List ℕ)) (rec : List ℕ) (after : List (List ℕ)) (n p : ℕ) → RightLength (length f) → records_of f ≡ before ++ (rec ∷ after)
      → EachRight f before → FaultAfter f before rec n p → FirstFault f (refusal n (suc (length before)) p)
  still_due : RightLength (length f) → EachRight f (records_of f) → ((ks : List RecordKind) → HaveKinds ks (records_of f) → ¬ InOrder ks) → FirstFault f (refusal 4 (suc (length (records_of f))) 0)
