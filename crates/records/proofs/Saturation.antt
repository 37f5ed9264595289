-- Counts that stop one above what a record's digits hold are judged as the exact ones are. Assumes nothing.
use Prim.Native.Nat.{ℕ, ◌-◌, ◌^◌, ◌≤◌, ◌<◌, min}
use mathlib.Core.Bool.{Bool, true, false, cond}
use mathlib.Core.List.{List, [], ◌++◌}
use mathlib.Core.Path.{◌≡◌, refl, ap}
use native.Mathlib.Omega.{arith}
use lib.Dec.{leb, eqb}
use lib.ListN.{length, take, drop}
use borrow.Author.Tests.{leb-true, leb-false, eqb-true, ne_eqb}
use Rattle.fields.specs.Digits.{is_digits, number}
use Rattle.fields.proofs.Decimal.{number_below}
use Rattle.records.specs.Checks.{number_checks, trailer_checks, checks}
use Rattle.records.specs.Context.{Context}
use Rattle.records.specs.Field.{field, first_of}
use Rattle.records.specs.FlowKinds.{total_span, total_at, or_requests}
use Rattle.records.specs.RecordVerdict.{RecordVerdict, right, refused, Check, first_fault}
use Rattle.records.specs.Judge.{asked, judge_as}
use Rattle.records.specs.Laws.{SaturationUnseen, TrailerExact}
use Rattle.records.specs.Limits.{count_limit, cents_limit, saturated_context}
use Rattle.records.specs.declared.flow_kind.FlowKind.{FlowKind}
use Rattle.records.specs.declared.flow_kind.FlowKind.TheVariants.{Requests, Recalls}
use Rattle.records.specs.declared.kind.RecordKind.{RecordKind}
use Rattle.records.specs.declared.kind.RecordKind.TheVariants.{Im, R14, R16, R20, R30, R40, R50, R59, R51, R70, Ef}
use Rattle.records.proofs.FirstFault.{right-not-refused, kept, after}
use Rattle.records.proofs.FieldTests.{field-length}

-- a number below the limit does not tell v from v stopped there
below_limit : (n v l : ℕ) → n < l → eqb n (min v l) ≡ eqb n v
below_limit n v l h = go (leb v l) refl
  where
    go : (b : Bool) → leb v l ≡ b → eqb n (min v l) ≡ eqb n v
    go true e =
        let small = leb-true v l e in
        let same : min v l ≡ v = omega arith in
        rw same
    go false e =
        let large = leb-false v l e in
        let stop : min v l ≡ l = omega arith in
        let apart : n ≡ v → ⊥ = λ i. omega arith in
        let beyond : n ≡ l → ⊥ = λ i. omega arith in
        rw (stop, ne_eqb n v apart, ne_eqb n l beyond)

-- what the trailer says at either place stops with the sum
total_stops : (q : FlowKind) (p v l : ℕ) → total_at q p (min v l) ≡ min (total_at q p v) l
total_stops q p v l = by (eqb p (first_of (total_span q)))
  where
    by : (b : Bool) → cond b (min v l) 0 ≡ min (cond b v 0) l
    by true = refl
    by false = omega arith

-- digits of a field are below the limit that their number sets
digits_below : (a e : ℕ) (rec : List ℕ) → length rec ≡ 120 → 1 ≤ a → a ≤ e → e ≤ 120 → is_digits (field a e rec) ≡ true → number (field a e rec) < 10 ^ (e - (a - 1))
digits_below a e rec whole h k l t = rw (field-length a e rec h k (omega arith)) at (number_below (field a e rec) t)

-- a comparison that only digits reach
row_alike :
    (a b b' : Bool) (x x' y z : RecordVerdict) → (a ≡ true → b ≡ b') → x ≡ x'
    → cond a (cond b x y) z ≡ cond a (cond b' x' y) z
row_alike false b b' x x' y z h e = refl
row_alike true b b' x x' y z h e = rw (h refl, e)

module _ (ctx : Context) (rec : List ℕ) (whole : length rec ≡ 120) where
  -- the field of seven or fifteen digits from a on, refused by n where it is not v
  limited : (a e n v : ℕ) (x x' : RecordVerdict) → 1 ≤ a → a ≤ e → e ≤ 120 → x ≡ x' → let f = field a e rec in
      cond (is_digits f) (cond (eqb (number f) (min v (10 ^ (e - (a - 1))))) x (refused n a)) (refused 5 a) ≡ cond (is_digits f) (cond (eqb (number f) v) x' (refused n a)) (refused 5 a)
  limited a e n v x x' h k l same =
      let f = field a e rec in
      let limit = 10 ^ (e - (a - 1)) in
      row_alike (is_digits f) (eqb (number f) (min v limit)) (eqb (number f) v) x x' (refused n a) (refused 5 a) (λ t. below_limit (number f) v limit (digits_below a e rec whole h k l t)) same

  number_alike : (xs : List Check) (rest : RecordVerdict) → first_fault (number_checks (saturated_context ctx).counts.dispositions rec ++ xs) rest ≡ first_fault (number_checks ctx.counts.dispositions rec ++ xs) rest
  unfolding first_fault
  number_alike xs rest = limited 4 10 9 ctx.counts.dispositions (first_fault xs rest) (first_fault xs rest) (omega arith) (omega arith) (omega arith) refl

  -- the total at the place that starts at a
  total_alike : (q : FlowKind) (a e : ℕ) (x x' : RecordVerdict) → 1 ≤ a → a ≤ e → e ≤ 120 → e - (a - 1) ≡ 15 → x ≡ x' → let f = field a e rec in
      cond (is_digits f) (cond (eqb (number f) (total_at q a (saturated_context ctx).counts.cents)) x (refused 13 a)) (refused 5 a)
      ≡ cond (is_digits f) (cond (eqb (number f) (total_at q a ctx.counts.cents)) x' (refused 13 a)) (refused 5 a)
  total_alike q a e x x' h k l wide same =
      let f = field a e rec in
      let limit : 10 ^ (e - (a - 1)) ≡ cents_limit = ap (λ (n : ℕ). 10 ^ n) wide in
      rw (total_stops q a ctx.counts.cents cents_limit, ← limit) (limited a e 13 (total_at q a ctx.counts.cents) x x' h k l same)

  trailer_alike : (q : FlowKind) (rest : RecordVerdict) → first_fault (trailer_checks ctx.header q (saturated_context ctx).counts rec) rest ≡ first_fault (trailer_checks ctx.header q ctx.counts rec) rest
  unfolding first_fault
  trailer_alike q rest =
      let exact = trailer_checks ctx.header q ctx.counts rec in
      let stops = trailer_checks ctx.header q (saturated_context ctx).counts rec in
      let after = first_fault (drop 10 exact) rest in
      let recalled = total_alike q 68 82 after after (omega arith) (omega arith) (omega arith) refl refl in
      let asked = total_alike q 53 67 (first_fault (drop 8 stops) rest) (first_fault (drop 8 exact) rest) (omega arith) (omega arith) (omega arith) refl recalled in
      let count = limited 46 52 12 ctx.counts.dispositions (first_fault (drop 6 stops) rest) (first_fault (drop 6 exact) rest) (omega arith) (omega arith) (omega arith) asked in
      ap (first_fault (take 4 exact)) count

  checks_alike : (k : RecordKind) (rest : RecordVerdict) → first_fault (checks k (saturated_context ctx) rec) rest ≡ first_fault (checks k ctx rec) rest
  unfolding checks
  checks_alike Im rest = refl
  checks_alike R14 rest = number_alike _ rest
  checks_alike R16 rest = number_alike _ rest
  checks_alike R20 rest = number_alike _ rest
  checks_alike R30 rest = number_alike _ rest
  checks_alike R40 rest = number_alike [] rest
  checks_alike R50 rest = number_alike [] rest
  checks_alike R59 rest = number_alike _ rest
  checks_alike R51 rest = number_alike [] rest
  checks_alike R70 rest = number_alike _ rest
  checks_alike Ef rest = trailer_alike (or_requests ctx.kind) rest

-- counts that stop there are judged as the exact ones are
pub saturation_unseen : SaturationUnseen
unfolding judge_as
saturation_unseen k ctx rec = go (eqb (length rec) 120) refl
  where
    go : (b : Bool) → eqb (length rec) 120 ≡ b → cond b (first_fault (checks k (saturated_context ctx) rec) (right k (asked k rec))) (refused 1 0) ≡ cond b (first_fault (checks k ctx rec) (right k (asked k rec))) (refused 1 0)
    go true e = checks_alike ctx rec (eqb-true (length rec) 120 e) k (right k (asked k rec))
    go false e = refl

-- of a right trailer the counts have not stopped
pub trailer_exact : TrailerExact
unfolding judge_as checks
trailer_exact ctx rec k c = go (eqb (length rec) 120) refl
  where
    equal : (a e v : ℕ) → length rec ≡ 120 → 1 ≤ a → a ≤ e → e ≤ 120 → is_digits (field a e rec) ≡ true → eqb (number (field a e rec)) v ≡ true → v < 10 ^ (e - (a - 1))
    equal a e v whole h i l t s = rw (← eqb-true (number (field a e rec)) v s) (digits_below a e rec whole h i l t)

    -- the sum stands at one of the two places
    either : (q : FlowKind) → total_at q 53 ctx.counts.cents < cents_limit → total_at q 68 ctx.counts.cents < cents_limit → ctx.counts.cents < cents_limit
    either Requests asked recalled = asked
    either Recalls asked recalled = recalled

    counts : length rec ≡ 120 → first_fault (trailer_checks ctx.header (or_requests ctx.kind) ctx.counts rec) (right Ef 0) ≡ right k c → (ctx.counts.dispositions < count_limit) × (ctx.counts.cents < cents_limit)
    counts whole e =
        let count-digits = kept _ _ _ _ _ (after 4 (trailer_checks ctx.header (or_requests ctx.kind) ctx.counts rec) (right Ef 0) e) in
        let count = kept _ _ _ _ _ count-digits.1 in
        let asked-digits = kept _ _ _ _ _ count.1 in
        let asked = kept _ _ _ _ _ asked-digits.1 in
        let recalled-digits = kept _ _ _ _ _ asked.1 in
        let recalled = kept _ _ _ _ _ recalled-digits.1 in (
          equal 46 52 _ whole (omega arith) (omega arith) (omega arith) count-digits.0 count.0,
          either (or_requests ctx.kind)
              (equal 53 67 _ whole (omega arith) (omega arith) (omega arith) asked-digits.0 asked.0)
              (equal 68 82 _ whole (omega arith) (omega arith) (omega arith) recalled-digits.0 recalled.0),
        )

    go : (b : Bool) → eqb (length rec) 120 ≡ b → cond b (first_fault (checks Ef ctx rec) (right Ef 0)) (refused 1 0) ≡ right k c → (ctx.counts.dispositions < count_limit) × (ctx.counts.cents < cents_limit)
    go true e x = counts (eqb-true (length rec) 120 e) x
    go false e x = absurd (right-not-refused x)
