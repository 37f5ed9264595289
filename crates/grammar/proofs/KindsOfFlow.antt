-- The kind of flow, told by its first 14 and kept by the later ones: that they all have one kind. Assumes nothing.
use Prim.Native.Nat.{ℕ}
use mathlib.Core.Bool.{true, true≢false}
use mathlib.Core.List.{List, [], ◌∷◌}
use mathlib.Core.Logic.{◌↔◌}
use mathlib.Core.Path.{◌≡◌, refl, sym, ◌∙◌, ap, subst}
use Rattle.sequences.specs.All.{All}
use Rattle.fields.specs.Bytes.{is_equal}
use Rattle.fields.proofs.Bytes.{equal_exact}
use Rattle.records.specs.Field.{field}
use Rattle.records.specs.FlowKinds.{causale, sign, kind_in, is_known, is_of, or_requests, first_known}
use Rattle.records.specs.declared.flow_kind.FlowKind.{FlowKind}
use Rattle.records.specs.declared.flow_kind.FlowKind.TheVariants.{Requests, Recalls}
use Rattle.records.proofs.FlowKinds.{kind-told}
use Rattle.grammar.specs.Rules.{KindRules}
use Rattle.std.specs.Prelude.{Option, Some, None}

-- what the grammar says of a kind is what the table of kinds does
pub kind_rules : (p : FlowKind) (rec : List ℕ) → KindRules p rec ↔ ((field 29 33 rec ≡ causale p) × (field 47 47 rec ≡ sign p))
kind_rules Requests rec = (λ h. h, λ h. h)
kind_rules Recalls rec = (λ h. h, λ h. h)

-- and its causale tells it
pub rules_told : (p : FlowKind) (rec : List ℕ) → KindRules p rec → kind_in rec ≡ Some p
rules_told p rec h = (kind-told rec p).1 ((kind_rules p rec).0 h).0

-- a 14 keeps the rules of some kind, which is the one found before it where one is
abbrev pub SomeKind : Option FlowKind → List ℕ → Type 0
SomeKind q rec = (p : FlowKind) × KindRules p rec × (first_known q (Some p) ≡ Some p)

-- as its three checks say
pub some-kind :
    (q : Option FlowKind) (rec : List ℕ)
    → ((is_known (kind_in rec) ≡ true) × (is_of q (field 29 33 rec) ≡ true) × (is_equal (field 47 47 rec) (sign (or_requests (kind_in rec))) ≡ true)) ↔ SomeKind q rec
some-kind q rec = (λ h. said (kind_in rec) refl h.0 h.1 h.2, tested)
  where
    before : (q : Option FlowKind) (p : FlowKind) → kind_in rec ≡ Some p → is_of q (field 29 33 rec) ≡ true → first_known q (Some p) ≡ Some p
    before None p e t = refl
    before (Some r) p e t = sym ((kind-told rec r).1 ((equal_exact (field 29 33 rec) (causale r)).0 t)) ∙ e

    said : (x : Option FlowKind) → kind_in rec ≡ x → is_known x ≡ true → is_of q (field 29 33 rec) ≡ true → is_equal (field 47 47 rec) (sign (or_requests x)) ≡ true → SomeKind q rec
    said None e known same signed = absurd (true≢false (sym known))
    said (Some p) e known same signed = (p, (kind_rules p rec).1 ((kind-told rec p).0 e, (equal_exact (field 47 47 rec) (sign p)).0 signed), before q p e same)

    may : (q : Option FlowKind) (p : FlowKind) → field 29 33 rec ≡ causale p → first_known q (Some p) ≡ Some p → is_of q (field 29 33 rec) ≡ true
    may None p e t = refl
    may (Some r) p e t = (equal_exact (field 29 33 rec) (causale r)).1 (e ∙ sym (ap (λ (x : Option FlowKind). causale (or_requests x)) t))

    tested : SomeKind q rec → (is_known (kind_in rec) ≡ true) × (is_of q (field 29 33 rec) ≡ true) × (is_equal (field 47 47 rec) (sign (or_requests (kind_in rec))) ≡ true)
    tested (p, h, first) =
        let rows = (kind_rules p rec).0 h in
        let told = rules_told p rec h in
        (ap is_known told, may q p rows.0 first, rw told ((equal_exact (field 47 47 rec) (sign p)).1 rows.1))

-- the kind found after records 14, each of which is right after those before it
abbrev pub kind_through : Option FlowKind → List (List ℕ) → Option FlowKind
kind_through q [] = q
kind_through q (rec ∷ recs) = kind_through (first_known q (kind_in rec)) recs

abbrev pub Kindred : Option FlowKind → List (List ℕ) → Type 0
Kindred q [] = Unit
Kindred q (rec ∷ recs) = SomeKind q rec × Kindred (first_known q (kind_in rec)) recs

-- a kind that is known stays
known_through : (p : FlowKind) (recs : List (List ℕ)) → kind_through (Some p) recs ≡ Some p
known_through p [] = refl
known_through p (rec ∷ recs) = known_through p recs

known-all : (p : FlowKind) (recs : List (List ℕ)) → Kindred (Some p) recs → All (KindRules p) recs
known-all p [] k = tt
known-all p (rec ∷ recs) k = (subst (λ (r : FlowKind). KindRules r rec) (ap or_requests (sym k.0.2)) k.0.1, known-all p recs k.1)

-- the first tells it, and the others have it
pub first_tells : (rec : List ℕ) (recs : List (List ℕ)) → Kindred None (rec ∷ recs) → let p = or_requests (kind_through None (rec ∷ recs)) in All (KindRules p) (rec ∷ recs)
first_tells rec recs (first, others) =
    let p = first.0 in
    let told = rules_told p rec first.1 in
    let rest : All (KindRules p) recs = known-all p recs (subst (λ (q : Option FlowKind). Kindred q recs) told others) in
    let last : or_requests (kind_through None (rec ∷ recs)) ≡ p = ap or_requests (ap (λ (q : Option FlowKind). kind_through q recs) told ∙ known_through p recs) in
    subst (λ (r : FlowKind). All (KindRules r) (rec ∷ recs)) (sym last) (first.1, rest)

-- and the other way round
pub all_kindred : (q : Option FlowKind) (p : FlowKind) (recs : List (List ℕ)) → first_known q (Some p) ≡ Some p → All (KindRules p) recs → Kindred q recs
all_kindred q p [] first all = tt
all_kindred q p (rec ∷ recs) first all =
    let told : first_known q (kind_in rec) ≡ Some p = ap (first_known q) (rules_told p rec all.0) ∙ first in
    ((p, all.0, first), subst (λ (x : Option FlowKind). Kindred x recs) (sym told) (all_kindred (Some p) p recs refl all.1))

pub all_through : (p : FlowKind) (rec : List ℕ) (recs : List (List ℕ)) → All (KindRules p) (rec ∷ recs) → kind_through None (rec ∷ recs) ≡ Some p
all_through p rec recs all = ap (λ (q : Option FlowKind). kind_through q recs) (rules_told p rec all.0) ∙ known_through p recs
