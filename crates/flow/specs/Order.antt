-- The order of records (document 01, "The flow as bytes": IM; then dispositions; then EF, and nothing after it. A disposition is 14,
-- optionally 16, then 20, 30, 40, then either one 50 or one to five 59, then 51, 70). Assumes nothing.
use Rattle.std.specs.Prelude.{ℕ, suc, Bool, true, false, cond, ◌&&◌, ◌||◌, List, [], ◌∷◌, ◌⊎◌, ◌≡◌, ltb}
use Rattle.records.specs.Kinds.{has_type, goes_on, closes}
use Rattle.records.specs.declared.kind.RecordKind.{RecordKind}
use Rattle.records.specs.declared.kind.RecordKind.TheVariants.{Im, R14, R16, R20, R30, R40, R50, R59, R51, R70, Ef}
use Rattle.flow.specs.declared.order.Due.{Due}
use Rattle.flow.specs.declared.order.Due.TheVariants.{OnlyIm, OnlyR14, R16OrR20, OnlyR20, OnlyR30, OnlyR40, R50OrR59, R59OrR51, OnlyR51, OnlyR70, R14OrEf, Nothing}
use Rattle.flow.specs.declared.order.Place.{Place}
use Rattle.std.specs.Prelude.{Option, Some, None}

-- the kinds of record that may come next
abbrev pub permitted : Due → List RecordKind
permitted OnlyIm = Im ∷ []
permitted OnlyR14 = R14 ∷ []
permitted R16OrR20 = R16 ∷ R20 ∷ []
permitted OnlyR20 = R20 ∷ []
permitted OnlyR30 = R30 ∷ []
permitted OnlyR40 = R40 ∷ []
permitted R50OrR59 = R50 ∷ R59 ∷ []
permitted R59OrR51 = R59 ∷ R51 ∷ []
permitted OnlyR51 = R51 ∷ []
permitted OnlyR70 = R70 ∷ []
permitted R14OrEf = R14 ∷ Ef ∷ []
permitted Nothing = []

-- a kind is one of the list
abbrev pub In : RecordKind → List RecordKind → Type 0
In k [] = ⊥
In k (l ∷ ls) = (k ≡ l) ⊎ In k ls

-- a record is still due where one may come
abbrev pub is_due : List RecordKind → Bool
is_due [] = false
is_due (k ∷ ks) = true

-- the trailer may come
abbrev pub may_close : List RecordKind → Bool
may_close [] = false
may_close (k ∷ ks) = closes k || may_close ks

-- each of them goes on with a disposition
abbrev pub all_go_on : List RecordKind → Bool
all_go_on [] = true
all_go_on (k ∷ ks) = goes_on k && all_go_on ks

-- a place in the flow: what may come next, and, where a further 59 may come, how many stand right before it
abbrev pub place_due : Due → Place
place_due d = record { due = d; further = 0 }

-- the place after a record of the kind, with n records 59 right before that one; five are the most
abbrev pub place_after : ℕ → RecordKind → Place
place_after n Im = place_due OnlyR14
place_after n R14 = place_due R16OrR20
place_after n R16 = place_due OnlyR20
place_after n R20 = place_due OnlyR30
place_after n R30 = place_due OnlyR40
place_after n R40 = place_due R50OrR59
place_after n R50 = place_due OnlyR51
place_after n R59 = cond (ltb n 4) (record { due = R59OrR51; further = suc n }) (place_due OnlyR51)
place_after n R51 = place_due OnlyR70
place_after n R70 = place_due R14OrEf
place_after n Ef = place_due Nothing

-- the kind of a record among those permitted
unfoldable pub among : List RecordKind → List ℕ → Option RecordKind
among [] rec = None
among (k ∷ ks) rec = cond (has_type k rec) (Some k) (among ks rec)
