-- What an answer tells of the tests that led to it. Assumes nothing.
use Prim.Native.Nat.{ℕ}
use mathlib.Core.Path.{◌≡◌, refl, sym, ◌∙◌, ap}
use mathlib.Core.Logic.{◌↔◌, ◌⊎◌, inl, inr}
use mathlib.Core.Bool.{Bool, true, false, cond}
use native.Mathlib.Omega.{arith}
use Rattle.fields.specs.FieldVerdict.{FieldVerdict, accepted, refused}
use Rattle.fields.specs.Laws.{FieldDetermined, NumberDetermined, DateDetermined}
use Rattle.fields.specs.declared.calendar.Day.{Day}
use Rattle.refusals.proofs.Numbers.{number_told}
use Rattle.std.specs.Prelude.{Ok, Err}

module _ {A : Type 0} where
  -- a value is no refusal
  pub accepted-not-refused : {y : A} {n : ℕ} → accepted y ≡ refused n → ⊥
  accepted-not-refused e = let z : ◌≡◌ {A = ℕ} 0 1 = cc in omega arith

  pub accepted-same : {x y : A} → accepted x ≡ accepted y → x ≡ y
  accepted-same e = cc

  -- what was accepted has passed the test
  pub passed : (b : Bool) (x : FieldVerdict A) (n : ℕ) {y : A} → cond b x (refused n) ≡ accepted y → (b ≡ true) × (x ≡ accepted y)
  passed true x n e = (refl, e)
  passed false x n e = absurd (accepted-not-refused (sym e))

  pub refused-same : {n m : ℕ} → ◌≡◌ {A = FieldVerdict A} (refused n) (refused m) → n ≡ m
  refused-same e = cc

  -- an answer that is a value where P holds, and else the refusal k, is a refusal exactly where P fails, and then by k
  pub refused_exactly : {P : Type 0} (x : FieldVerdict A) (k : ℕ) → (P → (y : A) × (x ≡ accepted y)) → P ⊎ (x ≡ refused k) → (n : ℕ) → (x ≡ refused n) ↔ ((n ≡ k) × ¬ P)
  refused_exactly {P} x k value decided n = (λ e. (number decided e, fails e), λ h. left decided h)
    where
      fails : {m : ℕ} → x ≡ refused m → ¬ P
      fails e p = accepted-not-refused (sym (value p).1 ∙ e)

      number : P ⊎ (x ≡ refused k) → x ≡ refused n → n ≡ k
      number (inl p) e = absurd (fails e p)
      number (inr f) e = refused-same (sym e ∙ f)

      left : P ⊎ (x ≡ refused k) → (n ≡ k) × ¬ P → x ≡ refused n
      left (inl p) h = absurd (h.1 p)
      left (inr f) h = f ∙ ap refused (sym h.0)

  -- what was refused, where the test's passing would have been accepted, has failed it
  pub failed : (b : Bool) (x : A) (n m : ℕ) → cond b (accepted x) (refused n) ≡ refused m → b ≡ false
  failed true x n m e = absurd (accepted-not-refused e)
  failed false x n m e = refl

-- what an answer stands for determines it
pub field_determined : FieldDetermined
field_determined A (Ok a) (Ok b) e = cc
field_determined A (Ok a) (Err m) e = absurd (accepted-not-refused e)
field_determined A (Err n) (Ok b) e = absurd (accepted-not-refused (sym e))
field_determined A (Err n) (Err m) e = ap Err (number_told n m (refused-same e))

pub number_determined : NumberDetermined
number_determined = field_determined ℕ

pub date_determined : DateDetermined
date_determined = field_determined Day
