-- The positions that document 01's table of checks names, for each record type, and the type at 2-3. `ChecksByPosition` says that none is
-- missing. Assumes nothing.
use Rattle.std.specs.Prelude.{ℕ, List, [], ◌∷◌, ◌≡◌}
use Rattle.records.specs.Field.{Span, ◌to◌, field}
use Rattle.records.specs.declared.kind.RecordKind.{RecordKind}
use Rattle.records.specs.declared.kind.RecordKind.TheVariants.{Im, R14, R16, R20, R30, R40, R50, R59, R51, R70, Ef}

abbrev pub checked : RecordKind → List Span
checked Im = (2 to 3) ∷ (4 to 8) ∷ (9 to 13) ∷ (14 to 19) ∷ (20 to 39) ∷ (105 to 111) ∷ (114 to 114) ∷ []
checked R14 =
    (2 to 3)
    ∷ (4 to 10)
    ∷ (23 to 28)
    ∷ (29 to 33)
    ∷ (34 to 46)
    ∷ (47 to 47)
    ∷ (48 to 52)
    ∷ (53 to 57)
    ∷ (92 to 96)
    ∷ (97 to 97)
    ∷ (120 to 120)
    ∷ []
checked R16 = (2 to 3) ∷ (4 to 10) ∷ (11 to 12) ∷ (13 to 14) ∷ (15 to 15) ∷ (16 to 20) ∷ (21 to 25) ∷ (26 to 37) ∷ []
checked R20 = (2 to 3) ∷ (4 to 10) ∷ (11 to 34) ∷ []
checked R30 = (2 to 3) ∷ (4 to 10) ∷ (11 to 40) ∷ []
checked R40 = (2 to 3) ∷ (4 to 10) ∷ []
checked R50 = (2 to 3) ∷ (4 to 10) ∷ []
checked R59 = (2 to 3) ∷ (4 to 10) ∷ (11 to 65) ∷ []
checked R51 = (2 to 3) ∷ (4 to 10) ∷ []
checked R70 = (2 to 3) ∷ (4 to 10) ∷ (94 to 94) ∷ []
checked Ef = (2 to 3) ∷ (4 to 8) ∷ (9 to 13) ∷ (14 to 19) ∷ (20 to 39) ∷ (46 to 52) ∷ (53 to 67) ∷ (68 to 82) ∷ (83 to 89) ∷ (114 to 114) ∷ []

-- two records have the same bytes at the positions
abbrev pub Alike : List Span → List ℕ → List ℕ → Type 0
Alike [] rec other = Unit
Alike ((a to e) ∷ ss) rec other = (field a e rec ≡ field a e other) × Alike ss rec other
