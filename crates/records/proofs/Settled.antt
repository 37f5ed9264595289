-- Checks that the code has made of a field: what the rule of the field answers is what the rows of the table find. Assumes nothing.
use Prim.Native.Nat.{ℕ, ◌+◌}
use mathlib.Core.Bool.{Bool, true, false, cond}
use mathlib.Core.List.{[], ◌∷◌, List}
use mathlib.Core.Path.{◌≡◌, refl, sym, ◌∙◌, ap}
use lib.ListN.{length}
use native.Mathlib.Omega.{arith}
use borrow.Author.Tests.{eq-eqb}
use Rattle.std.specs.Prelude.{Result, Ok, Err, IfOk}
use Rattle.refusals.specs.declared.Reason.{Reason}
use Rattle.fields.specs.Amount.{amount_field, asked_for}
use Rattle.fields.specs.Date.{day_of, date_field, on_calendar}
use Rattle.fields.specs.Digits.{is_digits, is_above_zero, number, digit_field}
use Rattle.fields.specs.FieldVerdict.{accepted, not_digits, field_verdict}
use Rattle.fields.specs.FieldVerdict.{refused as FieldVerdict-refused}
use Rattle.fields.proofs.Answers.{accepted-not-refused, accepted-same, refused-same}
use Rattle.records.specs.Amount.{amount_in}
use Rattle.records.specs.Checks.{is_date, amount_checks}
use Rattle.records.specs.Field.{field}
use Rattle.records.specs.FieldTests.{Fits}
use Rattle.records.specs.RecordVerdict.{right, refused, check, first_fault, Settles, placed}
use Rattle.records.specs.declared.judged.Fault.{Fault}
use Rattle.records.specs.declared.kind.RecordKind.TheVariants.{Im}
use Rattle.records.proofs.FirstFault.{right-not-refused}
use Rattle.std.specs.Result.{is_ok}
use Rattle.records.proofs.FieldTests.{field-length, field-digits}

module _ {A : Type 0} (p : ℕ) where
  -- a rule with one row, and with two: the second row is not asked where the first fails
  one_row : (b : Bool) (y : A) (r : Result A Reason) → field_verdict r ≡ cond b (accepted y) (FieldVerdict-refused not_digits) → Settles (placed p r) (check b 5 p ∷ [])
  unfolding first_fault
  one_row true y (Ok v) e = (refl, tt)
  one_row true y (Err x) e = absurd (accepted-not-refused (sym e))
  one_row false y (Ok v) e = absurd (accepted-not-refused e)
  one_row false y (Err x) e = λ rest. ap (λ (n : ℕ). refused n p) (refused-same (sym e))

  two_rows :
      (a b : Bool) (y : A) (n : ℕ) (r : Result A Reason) → field_verdict r ≡ cond a (cond b (accepted y) (FieldVerdict-refused n)) (FieldVerdict-refused not_digits)
      → Settles (placed p r) (check a 5 p ∷ check b n p ∷ [])
  unfolding first_fault
  two_rows true true y n (Ok v) e = (refl, (refl, tt))
  two_rows true true y n (Err x) e = absurd (accepted-not-refused (sym e))
  two_rows true false y n (Ok v) e = absurd (accepted-not-refused e)
  two_rows true false y n (Err x) e = λ rest. ap (λ (m : ℕ). refused m p) (refused-same (sym e))
  two_rows false b y n (Ok v) e = absurd (accepted-not-refused e)
  two_rows false b y n (Err x) e = λ rest. ap (λ (m : ℕ). refused m p) (refused-same (sym e))

  -- and what it gives
  given : (a b : Bool) (y : A) (n : ℕ) (r : Result A Reason) → field_verdict r ≡ cond a (cond b (accepted y) (FieldVerdict-refused n)) (FieldVerdict-refused not_digits) → IfOk (placed p r) (λ v. v ≡ y)
  given true true y n (Ok v) e = accepted-same e
  given true false y n (Ok v) e = absurd (accepted-not-refused e)
  given false b y n (Ok v) e = absurd (accepted-not-refused e)
  given a b y n (Err x) e = tt

-- what has settled a row tells whether it holds
pub is_ok_settled : {A : Type 0} (b : Bool) (n p : ℕ) (r : Result A Fault) → Settles r (check b n p ∷ []) → is_ok r ≡ b
unfolding first_fault
is_ok_settled b n p (Ok a) s = sym s.0
is_ok_settled true n p (Err f) s = absurd (right-not-refused (sym (s (right Im 0))))
is_ok_settled false n p (Err f) s = refl

-- a field of a record: digits, a date, and an amount
module _ (rec : List ℕ) (whole : length rec ≡ 120) where
  module _ (a e : ℕ) (f : Fits a e) (r : Result ℕ Reason) (said : field_verdict r ≡ digit_field (field a e rec)) where
    pub digits_settled : Settles (placed a r) (check (is_digits (field a e rec)) 5 a ∷ [])
    digits_settled = one_row a (is_digits (field a e rec)) (number (field a e rec)) r (said ∙ field-digits a e rec whole f)

    pub digits_given : IfOk (placed a r) (λ v. v ≡ number (field a e rec))
    digits_given = given a (is_digits (field a e rec)) true (number (field a e rec)) 5 r (said ∙ field-digits a e rec whole f)

  date_six : (a : ℕ) → Fits a (a + 5) → date_field (field a (a + 5) rec) ≡ cond (is_digits (field a (a + 5) rec)) (on_calendar (day_of (field a (a + 5) rec))) (FieldVerdict-refused not_digits)
  unfolding date_field
  date_six a f =
      let starts = f.starts in
      let within = f.within in
      let six : length (field a (a + 5) rec) ≡ 6 = field-length a (a + 5) rec starts f.some (omega arith) ∙ omega arith in
      rw (eq-eqb (length (field a (a + 5) rec)) 6 six)

  pub date_settled :
      (a : ℕ) → Fits a (a + 5) → (r : Result _ Reason) → field_verdict r ≡ date_field (field a (a + 5) rec)
      → Settles (placed a r) (check (is_digits (field a (a + 5) rec)) 5 a ∷ check (is_date (field a (a + 5) rec)) 8 a ∷ [])
  date_settled a f r said = two_rows a (is_digits (field a (a + 5) rec)) (is_date (field a (a + 5) rec)) (day_of (field a (a + 5) rec)) 8 r (said ∙ date_six a f)

  amount_thirteen : amount_field (amount_in rec) ≡ cond (is_digits (amount_in rec)) (asked_for (number (amount_in rec))) (FieldVerdict-refused not_digits)
  unfolding amount_field
  amount_thirteen =
      let thirteen : length (amount_in rec) ≡ 13 = field-length 34 46 rec (omega arith) (omega arith) (omega arith) in
      rw (eq-eqb (length (amount_in rec)) 13 thirteen)

  module _ (r : Result ℕ Reason) (said : field_verdict r ≡ amount_field (amount_in rec)) where
    pub amount_settled : Settles (placed 34 r) (amount_checks rec)
    amount_settled = two_rows 34 (is_digits (amount_in rec)) (is_above_zero (number (amount_in rec))) (number (amount_in rec)) 25 r (said ∙ amount_thirteen)

    pub amount_given : IfOk (placed 34 r) (λ v. v ≡ number (amount_in rec))
    amount_given = given 34 (is_digits (amount_in rec)) (is_above_zero (number (amount_in rec))) (number (amount_in rec)) 25 r (said ∙ amount_thirteen)
