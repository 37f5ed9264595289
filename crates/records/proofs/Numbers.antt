-- Which numbers the checks of a record give. Assumes nothing.
use Prim.Native.Nat.{ℕ}
use mathlib.Core.Bool.{true, false, ◌||◌, or-true, true≢false}
use mathlib.Core.List.{List, [], ◌∷◌}
use mathlib.Core.Logic.{◌⊎◌, inl, inr}
use mathlib.Core.Path.{◌≡◌, refl, sym, ◌∙◌, ap}
use lib.Dec.{eqb}
use lib.ListN.{length}
use borrow.Author.Tests.{eq-eqb, ne_eqb}
use Rattle.records.specs.Checks.{is_listed, checks}
use Rattle.records.specs.Context.{Context}
use Rattle.records.specs.RecordVerdict.{RecordVerdict, right, refused, Check, check, first_fault}
use Rattle.records.specs.Judge.{asked, judge_as}
use Rattle.records.specs.Laws.{OneForLength}
use Rattle.records.specs.declared.kind.RecordKind.{RecordKind}
use Rattle.records.specs.declared.kind.RecordKind.TheVariants.{Im, R14, R16, R20, R30, R40, R50, R59, R51, R70, Ef}
use Rattle.records.proofs.FirstFault.{right-not-refused}

-- the numbers that checks may refuse by
abbrev pub numbers_of : List Check → List ℕ
numbers_of [] = []
numbers_of (check holds n p ∷ cs) = n ∷ numbers_of cs

-- a refusal is one of theirs, or what follows them
pub refused_by : (cs : List Check) (rest : RecordVerdict) (n p : ℕ) → first_fault cs rest ≡ refused n p → (is_listed n (numbers_of cs) ≡ true) ⊎ (rest ≡ refused n p)
unfolding first_fault
refused_by [] rest n p e = inr e
refused_by (check true m q ∷ cs) rest n p e = later (refused_by cs rest n p e)
  where
    later : (is_listed n (numbers_of cs) ≡ true) ⊎ (rest ≡ refused n p) → ((eqb n m || is_listed n (numbers_of cs)) ≡ true) ⊎ (rest ≡ refused n p)
    later (inl h) = inl (rw (h, or-true))
    later (inr h) = inr h
refused_by (check false m q ∷ cs) rest n p e =
    let same : n ≡ m = cc in
    inl (rw (eq-eqb n m same))

-- no check of any kind gives 1
no_one : (k : RecordKind) (ctx : Context) (rec : List ℕ) → is_listed 1 (numbers_of (checks k ctx rec)) ≡ false
unfolding checks
no_one Im ctx rec = refl
no_one R14 ctx rec = refl
no_one R16 ctx rec = refl
no_one R20 ctx rec = refl
no_one R30 ctx rec = refl
no_one R40 ctx rec = refl
no_one R50 ctx rec = refl
no_one R59 ctx rec = refl
no_one R51 ctx rec = refl
no_one R70 ctx rec = refl
no_one Ef ctx rec = refl

pub one_for_length : OneForLength
unfolding judge_as
one_for_length k ctx rec p = (λ e. (position e, never e), λ h. other h.1 ∙ ap (refused 1) (sym h.0))
  where
    other : ¬ (length rec ≡ 120) → judge_as k ctx rec ≡ refused 1 0
    other h = rw (ne_eqb (length rec) 120 h)

    listed : (is_listed 1 (numbers_of (checks k ctx rec)) ≡ true) ⊎ (right k (asked k rec) ≡ refused 1 p) → ⊥
    listed (inl h) = true≢false (sym h ∙ no_one k ctx rec)
    listed (inr h) = right-not-refused (sym h)

    never : judge_as k ctx rec ≡ refused 1 p → ¬ (length rec ≡ 120)
    never e whole = listed (refused_by (checks k ctx rec) (right k (asked k rec)) 1 p (rw (eq-eqb (length rec) 120 whole) at e))

    position : judge_as k ctx rec ≡ refused 1 p → p ≡ 0
    position e = let same : refused 1 0 ≡ refused 1 p = sym (other (never e)) ∙ e in cc
