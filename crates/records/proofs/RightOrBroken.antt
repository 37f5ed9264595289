-- What the rules of a record answer: right where each check holds, and else what the first that fails says. Assumes nothing.
use Prim.Native.Nat.{ℕ}
use mathlib.Core.Bool.{true, false}
use mathlib.Core.List.{List, [], ◌∷◌, ◌++◌, append-nil}
use mathlib.Core.Path.{◌≡◌, refl, sym, ◌∙◌, ap}
use Rattle.records.specs.Checks.{checks}
use Rattle.records.specs.RecordVerdict.{right, refused, Check, check, first_fault, FirstBroken, in_order}
use Rattle.records.specs.Judge.{asked}
use Rattle.records.specs.Laws.{RightExact, BrokenExact, ChecksInOrder}
use Rattle.records.specs.declared.kind.RecordKind.{RecordKind}
use Rattle.records.specs.declared.kind.RecordKind.TheVariants.{Im, R14, R16, R20, R30, R40, R50, R59, R51, R70, Ef}
use Rattle.records.proofs.ByKind.{of_kind}
use Rattle.records.proofs.FirstFault.{held, broken_front, right-not-refused, kept_front}

-- the first check that fails refuses
pub broken : (cs : List Check) (k : RecordKind) (c n p : ℕ) → first_fault cs (right k c) ≡ refused n p → FirstBroken cs n p
unfolding first_fault
broken [] k c n p e = absurd (right-not-refused (sym e))
broken (check true m q ∷ cs) k c n p e =
    let t = broken cs k c n p e in
    (check true m q ∷ t.0, t.1, ap (λ (l : List Check). check true m q ∷ l) t.2, (refl, t.3))
broken (check false m q ∷ cs) k c n p e = ([], cs, cc, tt)

pub right_exact : RightExact
unfolding first_fault
right_exact k ctx rec whole =
    let found = of_kind ctx rec refl whole in
    let rest = right k (asked k rec) in
    let all : first_fault (checks k ctx rec ++ []) rest ≡ first_fault (checks k ctx rec) rest = ap (λ (l : List Check). first_fault l rest) (append-nil (checks k ctx rec)) in
    (λ e. kept_front (checks k ctx rec) [] rest (all ∙ found ∙ e), λ h. sym found ∙ sym all ∙ held (checks k ctx rec) [] rest h)

pub broken_exact : BrokenExact
unfolding first_fault
broken_exact k ctx rec n p whole =
    let found = of_kind ctx rec refl whole in (
      λ e. broken (checks k ctx rec) k (asked k rec) n p (found ∙ e),
      λ t. sym found ∙ rw append-nil at (broken_front (checks k ctx rec) [] (right k (asked k rec)) n p t),
    )

-- the lists of checks stand in order
pub checks_in_order : ChecksInOrder
unfolding checks in_order
checks_in_order Im ctx rec = refl
checks_in_order R14 ctx rec = refl
checks_in_order R16 ctx rec = refl
checks_in_order R20 ctx rec = refl
checks_in_order R30 ctx rec = refl
checks_in_order R40 ctx rec = refl
checks_in_order R50 ctx rec = refl
checks_in_order R59 ctx rec = refl
checks_in_order R51 ctx rec = refl
checks_in_order R70 ctx rec = refl
checks_in_order Ef ctx rec = refl
