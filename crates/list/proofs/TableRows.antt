-- The first row that passes a test, as the library's `find` finds it. Assumes nothing.
use mathlib.Core.Bool.{Bool}
use mathlib.Core.List.{List, [], ◌∷◌}
use mathlib.Core.Path.{◌≡◌, refl, ◌∙◌}
use Rattle.std.specs.List.{find}
use Rattle.std.specs.Option.{option_map}
use Rattle.list.specs.Table.{first_row}
use Rattle.list.specs.declared.table.ItemKind.{ItemKind}
use Rattle.std.specs.Prelude.{Option, Some, None}

same : (r : Option ItemKind) → r ≡ option_map (λ (k : ItemKind). k) r
same (Some k) = refl
same None = refl

pub row_found : (p : ItemKind → Bool) (ks : List ItemKind) (r : Option ItemKind) → option_map (λ (k : ItemKind). k) r ≡ find p ks → r ≡ first_row p ks
unfolding first_row
row_found p ks r e = same r ∙ e ∙ found ks
  where
    found : (ks : List ItemKind) → find p ks ≡ first_row p ks
    found [] = refl
    found (k ∷ ks) = rw (found ks) refl
