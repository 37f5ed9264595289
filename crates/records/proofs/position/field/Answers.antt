-- `records::field` meets its contract. Assumes nothing.
use Prim.Native.Nat.{ℕ, ◌+◌, ◌-◌, ◌≤◌, ◌<◌}
use mathlib.Core.Bool.{and-false}
use mathlib.Core.List.{List}
use mathlib.Core.Path.{◌≡◌, refl, sym, ◌∙◌, ap}
use native.Mathlib.Omega.{arith}
use lib.ListN.{length, drop, length-drop, drop_of_length-le}
use lib.Seq.{take-nil, take_all}
use borrow.Author.Tests.{le-ltb, lt-ltb}
use Rattle.records.specs.Field.{field_start}
use Rattle.records.proofs.position.field.Goals as goal

-- where a field starts: without bytes at 0, and else at its first position
no-positions : (first last : ℕ) (rec : List ℕ) → last ≤ first - 1 → 0 ≡ field_start first last rec
no-positions first last rec none = rw (le-ltb _ _ none)

past_the_end : (first last : ℕ) (rec : List ℕ) → length rec ≤ first - 1 → 0 ≡ field_start first last rec
past_the_end first last rec past = rw (le-ltb _ _ past, and-false)

starts : (first last from : ℕ) (rec : List ℕ) → from ≡ first - 1 → from < last → from < length rec → from ≡ field_start first last rec
starts first last from rec e some within =
    let some : first - 1 < last = omega arith in
    let within : first - 1 < length rec = omega arith in
    e ∙ rw (lt-ltb _ _ some, lt-ltb _ _ within)

pub returns-then-last-from : goal.returns-then-last-from
returns-then-last-from c =
    let none : c.args.last - (c.args.first - 1) ≡ 0 = omega (arith, c.saturating_sub-from.ensures) in
    let from : c.args.last ≤ c.args.first - 1 = omega (arith, c.saturating_sub-from.ensures) in
    let lent = c.args in
    record { bytes = rw none; place = (refl, ap (λ (n : ℕ). n + lent.rec.ref_ptr.1) (no-positions lent.first lent.last lent.rec.now from)) }

pub returns-then-rec-from : goal.returns-then-rec-from
returns-then-rec-from c =
    let past : length c.args.rec.now ≤ c.args.first - 1 = omega (arith, c.saturating_sub-from.ensures) in
    let lent = c.args in
    record { bytes = rw (drop_of_length-le _ past, take-nil); place = (refl, ap (λ (n : ℕ). n + lent.rec.ref_ptr.1) (past_the_end lent.first lent.last lent.rec.now past)) }

pub returns-then-rec-last : goal.returns-then-rec-last
returns-then-rec-last c =
    let lent = c.args in
    let rec = c.args.rec.now in
    let from = c.saturating_sub-from.result in
    let short : length (drop from rec) ≤ c.args.last - from = omega (arith, length-drop from rec) in
    let whole : length (drop from rec) ≤ length rec - from = omega (arith, length-drop from rec) in
    record { bytes = rw (← c.saturating_sub-from.ensures) (take_all _ _ whole ∙ sym (take_all _ _ short)); place = (refl, ap (λ (n : ℕ). n + lent.rec.ref_ptr.1) (starts lent.first lent.last c.saturating_sub-from.result lent.rec.now c.saturating_sub-from.ensures (omega arith) (omega arith))) }

pub returns : goal.returns
returns c =
    let lent = c.args in
    record { bytes = rw c.saturating_sub-from.ensures; place = (refl, ap (λ (n : ℕ). n + lent.rec.ref_ptr.1) (starts lent.first lent.last c.saturating_sub-from.result lent.rec.now c.saturating_sub-from.ensures (omega arith) (omega arith))) }
