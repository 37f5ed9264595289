-- Fields of a fixed size, amounts and dates: so many digits, else 5; then the field's own rule, else its own number. Assumes nothing.
use Prim.Native.Nat.{ℕ}
use mathlib.Core.Path.{◌≡◌, refl, sym, ◌∙◌, ap}
use mathlib.Core.Bool.{Bool, true, false, cond, ◌&&◌, and-eq-true_iff, true≢false}
use mathlib.Core.List.{List}
use mathlib.Core.Logic.{◌↔◌, ◌⊎◌, inl, inr}
use lib.Dec.{eqb}
use lib.ListN.{length}
use borrow.Author.Tests.{eq-eqb, eqb-true}
use Rattle.fields.specs.FieldVerdict.{FieldVerdict, accepted, refused, not_digits}
use Rattle.fields.specs.Digits.{is_digits}
use Rattle.fields.specs.Laws.{DigitsOf}
use Rattle.fields.proofs.Answers.{accepted-not-refused, accepted-same, refused-same}

-- the test of their size and digits
pub digits_tested : (size : ℕ) (bs : List ℕ) → DigitsOf size bs → (eqb (length bs) size && is_digits bs) ≡ true
digits_tested size bs d = rw (eq-eqb (length bs) size d.0, d.1)

-- the digits say x, which the field's rule takes where P and does not where Q
module _ {A P Q : Type 0} (size : ℕ) (bs : List ℕ) (test : Bool) (x : A) (k : ℕ) (takes : test ≡ true → P) (fails : test ≡ false → Q) (not-both : P → Q → ⊥) where
  abbrev answer : FieldVerdict A
  answer = cond (eqb (length bs) size && is_digits bs) (cond test (accepted x) (refused k)) (refused not_digits)

  -- the three ways that it can go
  data Outcome : Type 0 where
    no_digits : ¬ DigitsOf size bs → answer ≡ refused not_digits → Outcome
    not_taken : DigitsOf size bs → Q → answer ≡ refused k → Outcome
    taken : DigitsOf size bs → P → answer ≡ accepted x → Outcome

  outcome : Outcome
  outcome = go (eqb (length bs) size && is_digits bs) test refl refl
    where
      sized : (eqb (length bs) size && is_digits bs) ≡ true → DigitsOf size bs
      sized e =
          let both = (and-eq-true_iff (eqb (length bs) size) (is_digits bs)).0 e in
          (eqb-true (length bs) size both.0, both.1)

      go : (a b : Bool) → (eqb (length bs) size && is_digits bs) ≡ a → test ≡ b → Outcome
      go false b e f = no_digits (λ d. true≢false (sym (digits_tested size bs d) ∙ e)) (rw e)
      go true false e f = not_taken (sized e) (fails f) (rw (e, f))
      go true true e f = taken (sized e) (takes f) (rw (e, f))

  pub fixed_accepted : (y : A) → answer ≡ accepted y → DigitsOf size bs × P × (x ≡ y)
  fixed_accepted y f = by outcome
    where
      by : Outcome → DigitsOf size bs × P × (x ≡ y)
      by (no_digits d e) = absurd (accepted-not-refused (sym f ∙ e))
      by (not_taken d q e) = absurd (accepted-not-refused (sym f ∙ e))
      by (taken d p e) = (d, p, accepted-same (sym e ∙ f))

  pub fixed_refused : (n : ℕ) → (answer ≡ refused n) ↔ (((n ≡ not_digits) × ¬ DigitsOf size bs) ⊎ ((n ≡ k) × DigitsOf size bs × Q))
  fixed_refused n = (by outcome, back outcome)
    where
      by : Outcome → answer ≡ refused n → ((n ≡ not_digits) × ¬ DigitsOf size bs) ⊎ ((n ≡ k) × DigitsOf size bs × Q)
      by (no_digits d e) f = inl (refused-same (sym f ∙ e), d)
      by (not_taken d q e) f = inr (refused-same (sym f ∙ e), d, q)
      by (taken d p e) f = absurd (accepted-not-refused (sym e ∙ f))

      back : Outcome → ((n ≡ not_digits) × ¬ DigitsOf size bs) ⊎ ((n ≡ k) × DigitsOf size bs × Q) → answer ≡ refused n
      back (no_digits d e) (inl h) = e ∙ ap refused (sym h.0)
      back (no_digits d e) (inr h) = absurd (d h.1)
      back (not_taken d q e) (inl h) = absurd (h.1 d)
      back (not_taken d q e) (inr h) = e ∙ ap refused (sym h.0)
      back (taken d p e) (inl h) = absurd (h.1 d)
      back (taken d p e) (inr h) = absurd (not-both p h.2)
