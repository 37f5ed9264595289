-- The order of records as a grammar over their types (document 01, "The flow as bytes": IM; then dispositions; then EF, and nothing
-- after it. At least one disposition. A disposition is 14, optionally 16, then 20, 30, 40, then either one 50 or one to five 59, then
-- 51, 70). Assumes nothing.
use Rattle.std.specs.Prelude.{ℕ, ◌≤◌, List, [], ◌∷◌, ◌++◌, replicate}
use Rattle.records.specs.declared.kind.RecordKind.{RecordKind}
use Rattle.records.specs.declared.kind.RecordKind.TheVariants.{Im, R14, R16, R20, R30, R40, R50, R59, R51, R70, Ef}

-- optionally 16
pub data Coordinates : List RecordKind → Type 0 where
  no_16 : Coordinates []
  with_16 : Coordinates (R16 ∷ [])

-- either one 50 or one to five 59
pub data Reasons : List RecordKind → Type 0 where
  one_50 : Reasons (R50 ∷ [])
  some_59 : (n : ℕ) → 1 ≤ n → n ≤ 5 → Reasons (replicate n R59)

pub data Disposition : List RecordKind → Type 0 where
  disposition : {cs rs : List RecordKind} → Coordinates cs → Reasons rs → Disposition (R14 ∷ (cs ++ (R20 ∷ R30 ∷ R40 ∷ (rs ++ (R51 ∷ R70 ∷ [])))))

-- one or more of them
pub data Dispositions : List RecordKind → Type 0 where
  last : {ks : List RecordKind} → Disposition ks → Dispositions ks
  more : {ks ls : List RecordKind} → Disposition ks → Dispositions ls → Dispositions (ks ++ ls)

pub data InOrder : List RecordKind → Type 0 where
  in_order : {ks : List RecordKind} → Dispositions ks → InOrder (Im ∷ (ks ++ (Ef ∷ [])))
