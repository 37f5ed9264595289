-- The kinds of flow and what tells them. Assumes nothing.
use Prim.Native.Nat.{ℕ}
use mathlib.Core.Bool.{Bool, true, false, cond}
use mathlib.Core.List.{List, [], ◌∷◌}
use mathlib.Core.Path.{◌≡◌, refl, ◌∙◌, ap}
use native.Mathlib.Omega.{arith}
use Rattle.fields.specs.Bytes.{is_equal}
use Rattle.fields.proofs.Bytes.{equal_exact}
use Rattle.records.specs.Field.{field}
use Rattle.records.specs.FlowKinds.{flow_kinds, causale, kind_among, or_requests}
use Rattle.records.specs.Laws.{KindTold}
use Rattle.records.specs.declared.flow_kind.FlowKind.{FlowKind}
use Rattle.records.specs.declared.flow_kind.FlowKind.TheVariants.{Requests, Recalls}
use Rattle.std.specs.Prelude.{Some, None}

pub unknown-not_of : {q : FlowKind} → None ≡ Some q → ⊥
unknown-not_of e = let z : ◌≡◌ {A = ℕ} 0 1 = cc in omega arith

-- the causale of a kind tells it
pub own_causale : (q : FlowKind) → kind_among flow_kinds (causale q) ≡ Some q
unfolding kind_among is_equal
own_causale Requests = refl
own_causale Recalls = refl

-- what is found among kinds has the causale
found-causale : (qs : List FlowKind) (bs : List ℕ) (q : FlowKind) → kind_among qs bs ≡ Some q → bs ≡ causale q
unfolding kind_among
found-causale [] bs q e = absurd (unknown-not_of e)
found-causale (p ∷ ps) bs q e = go (is_equal bs (causale p)) refl (found-causale ps bs q) e
  where
    go : (b : Bool) → is_equal bs (causale p) ≡ b → (kind_among ps bs ≡ Some q → bs ≡ causale q) → cond b (Some p) (kind_among ps bs) ≡ Some q → bs ≡ causale q
    go true t later x = (equal_exact bs (causale p)).0 t ∙ ap causale (ap or_requests x)
    go false t later x = later x

pub kind-told : KindTold
kind-told rec q = (found-causale flow_kinds (field 29 33 rec) q, λ e. ap (kind_among flow_kinds) e ∙ own_causale q)
