-- Where a trailer may come, the kind of flow is known: a record 14 has told it. Assumes nothing.
use Prim.Native.Nat.{ℕ, suc}
use mathlib.Core.Bool.{Bool, true, false, cond, true≢false}
use mathlib.Core.List.{List, [], ◌∷◌}
use mathlib.Core.Logic.{◌⊎◌, inl, inr}
use mathlib.Core.Path.{◌≡◌, refl, sym, ◌∙◌, ap, subst}
use Rattle.records.specs.Checks.{checks}
use Rattle.records.specs.Context.{Header}
use Rattle.records.specs.FlowKinds.{kind_in, is_known, first_known}
use Rattle.records.specs.RecordVerdict.{Hold}
use Rattle.records.specs.Judge.{asked}
use Rattle.records.specs.Kinds.{opens}
use Rattle.records.specs.declared.kind.RecordKind.{RecordKind}
use Rattle.records.specs.declared.kind.RecordKind.TheVariants.{Im, R14}
use Rattle.flow.specs.Order.{In, permitted, may_close, place_after}
use Rattle.flow.specs.Walking.{start, kind_after, step, company_after}
use Rattle.flow.specs.declared.order.Due.{Due}
use Rattle.flow.specs.declared.order.Due.TheVariants.{OnlyIm, OnlyR14}
use Rattle.flow.specs.declared.walk.Walk.{Walk}
use Rattle.flow.proofs.Dispositions.{only-kind}
use Rattle.grammar.specs.Grammar.{Typed}
use Rattle.grammar.proofs.AtPlace.{asks, RightAt}
use Rattle.grammar.proofs.Walked.{state_after, Walked}
use Rattle.records.specs.declared.flow_kind.FlowKind.{FlowKind}
use Rattle.std.specs.Prelude.{Option, Some, None}

-- the kind is known, or the first record 14 is still to come
abbrev Early : Walk → Type 0
Early w = (is_known w.kind ≡ true) ⊎ ((w.place.due ≡ OnlyIm) ⊎ (w.place.due ≡ OnlyR14))

early_on : (h : Header) (w : Walk) (code : List ℕ) (i : ℕ) (k : RecordKind) (rec : List ℕ) → RightAt h w code i k rec → Early w → Early (step w k (asked k rec) rec)
unfolding checks
early_on h w code i k rec right-at (inl known) = inl (stays w.kind known (kind_in rec) (opens k))
  where
    stays : (q : Option FlowKind) → is_known q ≡ true → (x : Option FlowKind) (b : Bool) → is_known (cond b (first_known q x) q) ≡ true
    stays (Some p) e x true = refl
    stays (Some p) e x false = refl
    stays None e x b = absurd (true≢false (sym e))
early_on h w code i k rec right-at (inr (inl due)) =
    let im : k ≡ Im = only-kind (subst (λ (d : Due). In k (permitted d)) due right-at.may) in
    inr (inr (ap (λ (l : RecordKind). (place_after w.place.further l).due) im))
early_on h w code i k rec right-at (inr (inr due)) =
    let opening : k ≡ R14 = only-kind (subst (λ (d : Due). In k (permitted d)) due right-at.may) in
    let keeps : Hold (checks R14 (asks h w code i R14) rec) = subst (λ (l : RecordKind). Hold (checks l (asks h w code i l) rec)) opening right-at.keeps in
    inl (ap (λ (l : RecordKind). is_known (kind_after w.kind l rec)) opening ∙ told w.kind (kind_in rec) keeps.1.1.1.1.0)
  where
    told : (q x : Option FlowKind) → is_known x ≡ true → is_known (first_known q x) ≡ true
    told (Some p) x e = refl
    told None x e = e

early_all : (h : Header) (w : Walk) (code : List ℕ) (i : ℕ) (rs : List Typed) → Walked h w code i rs → Early w → Early (state_after w rs)
early_all h w code i [] walked early = early
early_all h w code i (r ∷ rs) walked early =
    let k = r.kind in
    let rec = r.bytes in
    early_all h (step w k (asked k rec) rec) (company_after code k rec) (suc i) rs walked.1 (early_on h w code (suc i) k rec walked.0 early)

pub kind_at_close : (h : Header) (code : List ℕ) (i : ℕ) (rs : List Typed) → Walked h start code i rs → may_close (permitted (state_after start rs).place.due) ≡ true → is_known (state_after start rs).kind ≡ true
kind_at_close h code i rs walked may = by (early_all h start code i rs walked (inr (inl refl)))
  where
    shut : {due : Due} → (state_after start rs).place.due ≡ due → may_close (permitted due) ≡ false → is_known (state_after start rs).kind ≡ true
    shut e none = absurd (true≢false (sym may ∙ ap (λ (d : Due). may_close (permitted d)) e ∙ none))

    by : Early (state_after start rs) → is_known (state_after start rs).kind ≡ true
    by (inl known) = known
    by (inr (inl due)) = shut due refl
    by (inr (inr due)) = shut due refl
