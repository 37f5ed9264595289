-- `list::alike` meets its contract. Assumes nothing.
use mathlib.Core.Bool.{Bool, ◌&&◌}
use mathlib.Core.List.{List, [], ◌∷◌, map}
use mathlib.Core.Path.{◌≡◌, refl, ◌∙◌, ap}
use Rattle.std.proofs.Common.{rules, tests, ℕ}
use Rattle.std.proofs.lemmas.Iterator.{YieldsList-from_slice}
use Rattle.std.proofs.lemmas.Iterator.Search.{all_from_yields_List}
use Rattle.std.specs.List.{list_all}
use Rattle.fields.specs.Bytes.{is_equal}
use Rattle.records.specs.Field.{Span, ◌to◌, field}
use Rattle.list.specs.Same.{is_alike}
use Rattle.list.specs.Table.{pair_of}
use Rattle.list.proofs.same.alike.Goals as goal

abbrev test : List ℕ → List ℕ → ℕ × ℕ → Bool
test rec other p = is_equal (field p.0 p.1 rec) (field p.0 p.1 other)

each : (rec other : List ℕ) (ss : List Span) → list_all (test rec other) (map pair_of ss) ≡ is_alike ss rec other
unfolding is_alike
each rec other [] = refl
each rec other ((a to e) ∷ ss) = ap (λ (b : Bool). is_equal (field a e rec) (field a e other) && b) (each rec other ss)

pub returns : goal.returns
returns c =
    all_from_yields_List (test c.args.rec.now c.args.other.now) _ _ c.all.result c.all.ensures.ran (YieldsList-from_slice c.carried.result.now cc) (λ x b q k. search (rules, tests))
    ∙ rw c.carried.ensures (each c.args.rec.now c.args.other.now _)
