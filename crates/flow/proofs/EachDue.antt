-- What holds of each case of what may come next. Assumes nothing.
use Prim.Native.Nat.{ℕ}
use mathlib.Core.Bool.{Bool, true, false, not, ◌||◌}
use mathlib.Core.List.{List, [], ◌∷◌}
use mathlib.Core.Path.{◌≡◌}
use denote.Enum.Declared.{tag_of}
use mir.Val.{has_key}
use types.Run.{OneOf}
use Rattle.sequences.specs.All.{All}
use Rattle.sequences.proofs.Tags.{fails_listed}
use Rattle.flow.specs.declared.order.Due.{Due}
use Rattle.flow.specs.declared.order.Due.TheVariants.{OnlyIm, OnlyR14, R16OrR20, OnlyR20, OnlyR30, OnlyR40, R50OrR59, R59OrR51, OnlyR51, OnlyR70, R14OrEf, Nothing}
use Rattle.flow.specs.contracts.order.Due.{the_type}

abbrev pub dues : List Due
dues = OnlyIm ∷ OnlyR14 ∷ R16OrR20 ∷ OnlyR20 ∷ OnlyR30 ∷ OnlyR40 ∷ R50OrR59 ∷ R59OrR51 ∷ OnlyR51 ∷ OnlyR70 ∷ R14OrEf ∷ Nothing ∷ []

pub each-due : (P : Due → Type 0) → All P dues → (d : Due) → P d
each-due P all OnlyIm = all.0
each-due P all OnlyR14 = all.1.0
each-due P all R16OrR20 = all.1.1.0
each-due P all OnlyR20 = all.1.1.1.0
each-due P all OnlyR30 = all.1.1.1.1.0
each-due P all OnlyR40 = all.1.1.1.1.1.0
each-due P all R50OrR59 = all.1.1.1.1.1.1.0
each-due P all R59OrR51 = all.1.1.1.1.1.1.1.0
each-due P all OnlyR51 = all.1.1.1.1.1.1.1.1.0
each-due P all OnlyR70 = all.1.1.1.1.1.1.1.1.1.0
each-due P all R14OrEf = all.1.1.1.1.1.1.1.1.1.1.0
each-due P all Nothing = all.1.1.1.1.1.1.1.1.1.1.1.0

-- a test that fails at each case whose tag is listed
pub fails_at : (t : Due → Bool) (tags : List ℕ) → All (λ (d : Due). (not (t d) || not (has_key tags (tag_of the_type d))) ≡ true) dues → (d : Due) → OneOf tags (tag_of the_type d) → false ≡ t d
fails_at t tags all d listed = fails_listed tags (tag_of the_type d) (t d) (each-due (λ (d : Due). (not (t d) || not (has_key tags (tag_of the_type d))) ≡ true) all d) listed
