-- The rows of an amount and the rule of its field. Assumes nothing.
use Prim.Native.Nat.{ℕ}
use mathlib.Core.Bool.{Bool, true, false, cond}
use mathlib.Core.List.{List, []}
use mathlib.Core.Path.{◌≡◌, refl, sym, ◌∙◌, ap, subst}
use native.Mathlib.Omega.{arith}
use lib.Dec.{eqb}
use lib.ListN.{length}
use borrow.Author.Tests.{eq-eqb, eqb-true}
use Rattle.fields.specs.Amount.{asked_for, amount_field}
use Rattle.fields.specs.FieldVerdict.{FieldVerdict, accepted, refused, not_digits, zero_amount}
use Rattle.fields.specs.Digits.{is_digits, number, is_above_zero}
use Rattle.records.specs.Amount.{amount_span, amount_in, HasAmount}
use Rattle.records.specs.Checks.{amount_checks, checks}
use Rattle.records.specs.Context.{Context}
use Rattle.records.specs.Field.{first_of}
use Rattle.records.specs.RecordVerdict.{RecordVerdict, right, Check, first_fault, checks_at}
use Rattle.records.specs.RecordVerdict.{refused as RecordVerdict-refused}
use Rattle.records.specs.Judge.{asked, judge_as}
use Rattle.records.specs.Kinds.{opens}
use Rattle.records.specs.Laws.{AmountBy, AmountRows}
use Rattle.records.specs.declared.kind.RecordKind.{RecordKind}
use Rattle.records.specs.declared.kind.RecordKind.TheVariants.{R14}
use Rattle.records.proofs.EachKind.{opens_14}
use Rattle.records.proofs.FirstFault.{held, broken_front, right-not-refused, kept_all, kept_front, after}
use Rattle.records.proofs.RightOrBroken.{broken}
use Rattle.records.proofs.FieldTests.{field-length}

-- what a field's answer is of the record, at the amount's place
abbrev as_finding : FieldVerdict ℕ → RecordVerdict
as_finding (accepted v) = right R14 v
as_finding (refused n) = RecordVerdict-refused n 34

found_value : (x : FieldVerdict ℕ) (v : ℕ) → as_finding x ≡ right R14 v → x ≡ accepted v
found_value (accepted w) v e = cc
found_value (refused n) v e = absurd (right-not-refused e)

found-refusal : (x : FieldVerdict ℕ) (n : ℕ) → as_finding x ≡ RecordVerdict-refused n 34 → x ≡ refused n
found-refusal (accepted v) n e = absurd (right-not-refused (sym e))
found-refusal (refused m) n e = cc

-- thirteen bytes are an amount by their digits and what these say, and so by their rows
amount-found : (rec : List ℕ) → length rec ≡ 120 → as_finding (amount_field (amount_in rec)) ≡ first_fault (amount_checks rec) (right R14 (number (amount_in rec)))
unfolding amount_field first_fault
amount-found rec whole = ap as_finding read ∙ by (is_digits bs) (is_above_zero (number bs))
  where
    bs : List ℕ
    bs = amount_in rec

    thirteen : length bs ≡ 13
    thirteen = field-length 34 46 rec (omega arith) (omega arith) (omega arith)

    read : amount_field bs ≡ cond (is_digits bs) (asked_for (number bs)) (refused not_digits)
    read = rw (eq-eqb (length bs) 13 thirteen)

    by :
        (b c : Bool)
        → as_finding (cond b (cond c (accepted (number bs)) (refused zero_amount)) (refused not_digits))
        ≡ cond b (cond c (right R14 (number bs)) (RecordVerdict-refused zero_amount 34)) (RecordVerdict-refused not_digits 34)
    by true true = refl
    by true false = refl
    by false c = refl

pub amount_by : (rec : List ℕ) → length rec ≡ 120 → AmountBy (amount_checks rec) rec
unfolding first_fault
amount_by rec whole =
    let x = amount_field (amount_in rec) in
    let so = amount-found rec whole in
    let v = number (amount_in rec) in
    let cs = amount_checks rec in
    let rest = right R14 v in
    record {
      refuses = λ n. (λ e. broken cs R14 v n 34 (sym so ∙ ap as_finding e), λ b. found-refusal x n (so ∙ broken_front cs [] rest n 34 b));
      reads =
          λ w. (
            λ e. let kept = sym so ∙ ap as_finding e in (kept_front cs [] rest kept, same w (kept_all cs rest kept)),
            λ h. found_value x w (so ∙ held cs [] rest h.0 ∙ ap (right R14) (sym h.1)),
          );
    }
  where
    same : (w : ℕ) → right R14 (number (amount_in rec)) ≡ right R14 w → w ≡ number (amount_in rec)
    same w e = cc

-- these are all that the table has at the amount's place
checks_at-amount : (ctx : Context) (rec : List ℕ) → checks_at (first_of amount_span) (checks R14 ctx rec) ≡ amount_checks rec
unfolding checks checks_at
checks_at-amount ctx rec = refl

pub amount-rows : AmountRows
amount-rows k ctx rec o whole =
    let own = ap (λ (l : RecordKind). checks_at (first_of amount_span) (checks l ctx rec)) (opens_14 k o) ∙ checks_at-amount ctx rec in
    subst (λ (cs : List Check). AmountBy cs rec) (sym own) (amount_by rec whole)

-- a right record that opens a disposition has an amount
pub right-amount : (k l : RecordKind) (ctx : Context) (rec : List ℕ) (c : ℕ) → opens k ≡ true → judge_as k ctx rec ≡ right l c → HasAmount rec
unfolding judge_as checks
right-amount k l ctx rec c o e = by (eqb (length rec) 120) refl (subst (λ (m : RecordKind). judge_as m ctx rec ≡ right l c) (opens_14 k o) e)
  where
    by :
        (b : Bool) → eqb (length rec) 120 ≡ b → cond b (first_fault (checks R14 ctx rec) (right R14 (asked R14 rec))) (RecordVerdict-refused 1 0) ≡ right l c
        → HasAmount rec
    by true t x =
        let rows = kept_front (amount_checks rec) _ (right R14 (asked R14 rec)) (after 6 (checks R14 ctx rec) (right R14 (asked R14 rec)) x) in
        ((amount_by rec (eqb-true (length rec) 120 t)).reads (number (amount_in rec))).1 (rows, refl)
    by false t x = absurd (right-not-refused x)
