-- The kind of a record among those permitted: the one of them whose type stands at 2-3. Assumes nothing.
use Prim.Native.Nat.{ℕ}
use mathlib.Core.Bool.{Bool, true, false, cond, true≢false}
use mathlib.Core.List.{List, [], ◌∷◌}
use mathlib.Core.Logic.{◌⊎◌, inl, inr, ⊎_elim}
use mathlib.Core.Path.{◌≡◌, refl, sym, ◌∙◌, ap, subst}
use native.Mathlib.Omega.{arith}
use Rattle.records.specs.Kinds.{has_type}
use Rattle.records.specs.declared.kind.RecordKind.{RecordKind}
use Rattle.records.proofs.ByKind.{one_type}
use Rattle.flow.specs.Order.{In, among}
use Rattle.std.specs.Prelude.{Option, Some, None}

missing_not_of : {k : RecordKind} → None ≡ Some k → ⊥
missing_not_of e = let z : ◌≡◌ {A = ℕ} 0 1 = cc in omega arith

pub among-said : (ks : List RecordKind) (rec : List ℕ) (k : RecordKind) → among ks rec ≡ Some k → In k ks × (has_type k rec ≡ true)
unfolding among
among-said [] rec k e = absurd (missing_not_of e)
among-said (l ∷ ks) rec k e = go (among-said ks rec k) (has_type l rec) refl e
  where
    go : (among ks rec ≡ Some k → In k ks × (has_type k rec ≡ true)) → (b : Bool) → has_type l rec ≡ b → cond b (Some l) (among ks rec) ≡ Some k → In k (l ∷ ks) × (has_type k rec ≡ true)
    go rest true t e =
        let same : l ≡ k = cc in
        (inl (sym same), subst (λ (m : RecordKind). has_type m rec ≡ true) same t)
    go rest false t e =
        let found = rest e in
        (inr found.0, found.1)

pub among_tested : (ks : List RecordKind) (rec : List ℕ) (k : RecordKind) → In k ks → has_type k rec ≡ true → among ks rec ≡ Some k
unfolding among
among_tested [] rec k i t = absurd i
among_tested (l ∷ ks) rec k i t = go (among_tested ks rec k) (has_type l rec) refl i
  where
    go : (In k ks → has_type k rec ≡ true → among ks rec ≡ Some k) → (b : Bool) → has_type l rec ≡ b → In k (l ∷ ks) → cond b (Some l) (among ks rec) ≡ Some k
    go rest true u i = ap Some (one_type l k rec u t)
    go rest false u (inl same) = absurd (true≢false (sym (subst (λ (m : RecordKind). has_type m rec ≡ true) same t) ∙ u))
    go rest false u (inr i) = rest i t

-- of the types permitted the record has one, or none
abbrev pub Has : List RecordKind → List ℕ → Type 0
Has ks rec = (k : RecordKind) × In k ks × (has_type k rec ≡ true)

abbrev pub HasNone : List RecordKind → List ℕ → Type 0
HasNone ks rec = (k : RecordKind) → In k ks → ¬ (has_type k rec ≡ true)

found : (ks : List RecordKind) (rec : List ℕ) (x : Option RecordKind) → among ks rec ≡ x → Has ks rec ⊎ (HasNone ks rec × (among ks rec ≡ None))
found ks rec (Some k) e = let said = among-said ks rec k e in inl (k, said.0, said.1)
found ks rec None e = inr (λ k i t. missing_not_of (sym e ∙ among_tested ks rec k i t), e)

pub has_or_none : (ks : List RecordKind) (rec : List ℕ) → Has ks rec ⊎ HasNone ks rec
has_or_none ks rec = ⊎_elim (λ o. inl o) (λ o. inr o.0) (found ks rec (among ks rec) refl)

pub none_missing : (ks : List RecordKind) (rec : List ℕ) → HasNone ks rec → among ks rec ≡ None
none_missing ks rec none = ⊎_elim (λ o. absurd (none o.0 o.1 o.2)) (λ o. o.1) (found ks rec (among ks rec) refl)
