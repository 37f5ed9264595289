-- A record that passes the quick test is right. Assumes nothing.
use Prim.Native.Nat.{ℕ, ◌+◌, ◌-◌}
use mathlib.Core.Bool.{true, false, not, and-eq-true_iff, true≢false}
use mathlib.Core.List.{List, ◌++◌}
use mathlib.Core.Path.{◌≡◌, refl, sym, ◌∙◌, ap}
use native.Mathlib.Omega.{arith}
use lib.Dec.{eqb}
use lib.ListN.{length}
use borrow.Author.Tests.{eq-eqb, eqb-true, not-true}
use Rattle.sequences.specs.Part.{part}
use Rattle.sequences.proofs.Every.{every_append}
use Rattle.sequences.proofs.Part.{part_join}
use Rattle.fields.specs.Bytes.{is_blank_byte, is_blank, is_equal}
use Rattle.fields.specs.Digits.{is_digits, number}
use Rattle.fields.proofs.Bytes.{equal_exact}
use Rattle.records.specs.Bytes.{bad_byte}
use Rattle.records.specs.Checks.{is_present, checks}
use Rattle.records.specs.Context.{Context}
use Rattle.records.specs.Field.{field}
use Rattle.records.specs.RecordVerdict.{right, Hold}
use Rattle.records.specs.Judge.{asked}
use Rattle.records.specs.Kinds.{opens, closes}
use Rattle.records.specs.Laws.{QuickTestRight}
use Rattle.records.specs.QuickTest.{quick_checks}
use Rattle.records.specs.declared.kind.RecordKind.{RecordKind}
use Rattle.records.specs.declared.kind.RecordKind.TheVariants.{Im, R14, R16, R20, R30, R40, R50, R59, R51, R70, Ef}
use Rattle.records.proofs.RightOrBroken.{right_exact}

-- text up to 34 is text up to any later position
present : (more : ℕ) (rec : List ℕ) → is_present (field 11 34 rec) ≡ true → is_present (field 11 (34 + more) rec) ≡ true
present more rec kept =
    let size : 34 + more - 10 ≡ 24 + more = omega arith in
    let parts : field 11 (34 + more) rec ≡ part 10 24 rec ++ part (10 + 24) more rec = ap (λ (n : ℕ). part 10 n rec) size ∙ part_join 10 24 more rec in
    let blank : is_blank (field 11 (34 + more) rec) ≡ false = ap is_blank parts ∙ every_append is_blank_byte (part 10 24 rec) (part (10 + 24) more rec) ∙ rw (not-true (is_blank (field 11 34 rec)) kept) in
    ap not blank

-- a kind with quick checks opens no disposition, and does not close the flow
within : (k : RecordKind) (rec : List ℕ) → quick_checks k rec ≡ true → (opens k ≡ false) × (closes k ≡ false)
within Im rec e = absurd (true≢false (sym e))
within R14 rec e = absurd (true≢false (sym e))
within R16 rec e = absurd (true≢false (sym e))
within R20 rec e = (refl, refl)
within R30 rec e = (refl, refl)
within R40 rec e = (refl, refl)
within R50 rec e = (refl, refl)
within R59 rec e = (refl, refl)
within R51 rec e = (refl, refl)
within R70 rec e = (refl, refl)
within Ef rec e = absurd (true≢false (sym e))

-- and with its number it keeps all of its checks
checks_hold :
    (k : RecordKind) (ctx : Context) (rec : List ℕ) → quick_checks k rec ≡ true
    → is_digits (field 4 10 rec) ≡ true → eqb (number (field 4 10 rec)) ctx.counts.dispositions ≡ true → Hold (checks k ctx rec)
unfolding checks
checks_hold Im ctx rec e d n = absurd (true≢false (sym e))
checks_hold R14 ctx rec e d n = absurd (true≢false (sym e))
checks_hold R16 ctx rec e d n = absurd (true≢false (sym e))
checks_hold R20 ctx rec e d n = (d, (n, (e, tt)))
checks_hold R30 ctx rec e d n = (d, (n, (present 6 rec e, tt)))
checks_hold R40 ctx rec e d n = (d, (n, tt))
checks_hold R50 ctx rec e d n = (d, (n, tt))
checks_hold R59 ctx rec e d n = (d, (n, (present 31 rec e, tt)))
checks_hold R51 ctx rec e d n = (d, (n, tt))
checks_hold R70 ctx rec e d n = (d, (n, (e, tt)))
checks_hold Ef ctx rec e d n = absurd (true≢false (sym e))

pub quick_test_right : QuickTestRight
quick_test_right k digits rec passes =
    let sized = (and-eq-true_iff (eqb (length rec) 120) _).0 passes in
    let kept = (and-eq-true_iff (quick_checks k rec) _).0 sized.1 in
    let last = (and-eq-true_iff (is_equal (field 4 10 rec) digits) (eqb (bad_byte rec) 0)).0 kept.1 in
    let whole = eqb-true (length rec) 120 sized.0 in
    let same : field 4 10 rec ≡ digits = (equal_exact (field 4 10 rec) digits).0 last.0 in
    let none = within k rec kept.0 in
    let asks : asked k rec ≡ 0 = rw none.0 in (
      eqb-true (bad_byte rec) 0 last.1,
      none.0,
      none.1,
      same,
      λ ctx known due. (right_exact k ctx rec whole).1 (checks_hold k ctx rec kept.0 (ap is_digits same ∙ known) (eq-eqb _ _ (ap number same ∙ due))) ∙ ap (right k) asks,
    )
