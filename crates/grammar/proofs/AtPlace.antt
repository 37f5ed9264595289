-- A record at its place in the flow: what the walk finds of it, as the statements say it. Assumes nothing.
use Prim.Native.Nat.{ℕ, zero, suc}
use mathlib.Core.List.{List}
use mathlib.Core.Logic.{◌⊎◌, inl, inr}
use mathlib.Core.Path.{◌≡◌, refl, sym, ◌∙◌, ap, subst}
use native.Mathlib.Omega.{arith}
use lib.ListN.{length}
use Rattle.sequences.specs.All.{All}
use Rattle.records.specs.Bytes.{bad_byte}
use Rattle.records.specs.Checks.{checks}
use Rattle.records.specs.Context.{Header, Context, context}
use Rattle.records.specs.Field.{field}
use Rattle.records.specs.RecordVerdict.{RecordVerdict, right, refused, Hold}
use Rattle.records.specs.Judge.{asked, judge_as}
use Rattle.records.specs.Kinds.{type_of}
use Rattle.records.specs.declared.kind.RecordKind.{RecordKind}
use Rattle.records.proofs.ByKind.{type-said, type_tested, right-asked}
use Rattle.records.proofs.FirstFault.{right-not-refused}
use Rattle.records.proofs.RightOrBroken.{right_exact, broken_exact}
use Rattle.flow.specs.Order.{In, permitted}
use Rattle.flow.specs.Walking.{counts_at, judge_record}
use Rattle.flow.specs.declared.walk.Walk.{Walk}
use Rattle.flow.proofs.Among.{Has, HasNone, has_or_none}
use Rattle.flow.proofs.Places.{other_length, bad_byte_lem as judged-bad-byte, judged_of, judged_none}
use Rattle.grammar.specs.Fault.{Fault, bad_byte_lem, wrong_type, broken}
use Rattle.grammar.specs.Laws.{PlaceFaultExact}
use Rattle.grammar.specs.Rules.{Printable, Formed}
use Rattle.grammar.proofs.Rules.{printable_exact, bad_byte_exact}

-- what the checks of a record of the kind are asked with, at a state of the walk
abbrev pub asks : Header → Walk → List ℕ → ℕ → RecordKind → Context
asks h w company n k = context h company w.kind (counts_at w n k)

abbrev pub May : Walk → RecordKind → Type 0
May w k = In k (permitted w.place.due)

-- right at its place, of the kind
pub record RightAt (h : Header) (w : Walk) (company : List ℕ) (n : ℕ) (k : RecordKind) (rec : List ℕ) : Type 0 where
  pub may : May w k
  pub formed : Formed k rec
  pub keeps : Hold (checks k (asks h w company n k) rec)

-- a fault at its place, by number and position
abbrev pub FaultAt : Header → Walk → List ℕ → ℕ → List ℕ → ℕ → ℕ → Type 0
FaultAt h w company n rec m p = Fault (May w) (asks h w company n) rec m p

abbrev pub Judgement : Header → Walk → List ℕ → ℕ → List ℕ → Type 0
Judgement h w company n rec = ((k : RecordKind) × RightAt h w company n k rec) ⊎ ((m p : ℕ) × FaultAt h w company n rec m p)

module _ (h : Header) (w : Walk) (company : List ℕ) (n : ℕ) (rec : List ℕ) (whole : length rec ≡ 120) where
  -- by the rules of its kind
  of_kind : (k : RecordKind) → All Printable rec → field 2 3 rec ≡ type_of k → May w k → judge_record h w company n rec ≡ judge_as k (asks h w company n k) rec
  of_kind k printable type may = judged_of h w company n rec whole k ((printable_exact rec).1 printable) may (type_tested k rec type)

  pub right_judged : (k : RecordKind) → RightAt h w company n k rec → judge_record h w company n rec ≡ right k (asked k rec)
  right_judged k r = of_kind k r.formed.printable r.formed.type r.may ∙ (right_exact k (asks h w company n k) rec whole).1 r.keeps

  pub fault_judged : (m p : ℕ) → FaultAt h w company n rec m p → judge_record h w company n rec ≡ refused m p
  fault_judged m p (bad_byte_lem bs b cs e printable bad) =
      let said = (bad_byte_exact rec (suc (length bs))).1 (bs, b, cs, e, printable, bad, refl) in
      judged-bad-byte h w company n rec whole (λ z. omega arith) ∙ ap (refused 2) said.0
  fault_judged m p (wrong_type printable none) = judged_none h w company n rec whole ((printable_exact rec).1 printable) (λ k i t. none k (type-said k rec t) i)
  fault_judged m p (broken k q r printable type may first) = of_kind k printable type may ∙ (broken_exact k (asks h w company n k) rec m p whole).1 first

  -- one of the two it is
  by_checks : (k : RecordKind) (x : RecordVerdict) → judge_as k (asks h w company n k) rec ≡ x → All Printable rec → field 2 3 rec ≡ type_of k → May w k → Judgement h w company n rec
  by_checks k (right l c) e printable type may =
      let same = right-asked k l (asks h w company n k) rec c e in
      let found : judge_as k (asks h w company n k) rec ≡ right k (asked k rec) = e ∙ cc in
      inl (k, record { may = may; formed = record { whole = whole; printable = printable; type = type }; keeps = (right_exact k (asks h w company n k) rec whole).0 found })
  by_checks k (refused m p) e printable type may =
      inr (m, p, broken k m p printable type may ((broken_exact k (asks h w company n k) rec m p whole).0 e))

  pub judgement : Judgement h w company n rec
  judgement = bytes (bad_byte rec) refl
    where
      typed : All Printable rec → Has (permitted w.place.due) rec ⊎ HasNone (permitted w.place.due) rec → Judgement h w company n rec
      typed printable (inl o) = by_checks o.0 (judge_as o.0 (asks h w company n o.0) rec) refl printable (type-said o.0 rec o.2) o.1
      typed printable (inr none) = inr (3, 2, wrong_type printable (λ k e i. none k i (type_tested k rec e)))

      bytes : (p : ℕ) → bad_byte rec ≡ p → Judgement h w company n rec
      bytes zero e = typed ((printable_exact rec).0 e) (has_or_none (permitted w.place.due) rec)
      bytes (suc p) e =
          let split = (bad_byte_exact rec (suc p)).0 (e, omega arith) in
          inr (2, suc (length split.0), bad_byte_lem split.0 split.1 split.2 split.3 split.4 split.5)

pub place_fault_exact : PlaceFaultExact
place_fault_exact h w company n rec = (λ whole m p. (told whole m p (judgement h w company n rec whole), fault_judged h w company n rec whole m p), λ other. other_length h w company n rec other)
  where
    told : length rec ≡ 120 → (m p : ℕ) → Judgement h w company n rec → judge_record h w company n rec ≡ refused m p → FaultAt h w company n rec m p
    told whole m p (inl r) e = absurd (right-not-refused (sym e ∙ right_judged h w company n rec whole r.0 r.1))
    told whole m p (inr r) e =
        let same : refused r.0 r.1 ≡ refused m p = sym (fault_judged h w company n rec whole r.0 r.1 r.2) ∙ e in
        let number : r.0 ≡ m = cc in
        let position : r.1 ≡ p = cc in
        subst (λ (A : Type 0). A) (λ i. FaultAt h w company n rec (number i) (position i)) r.2
