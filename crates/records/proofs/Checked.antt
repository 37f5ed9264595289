-- The checks of a record look at the positions that the table names, and at no others. Assumes nothing.
use Prim.Native.Nat.{ℕ, ◌+◌, ◌-◌, ◌≤◌, ◌<◌}
use mathlib.Core.List.{List, [], ◌∷◌, ◌++◌}
use mathlib.Core.Path.{◌≡◌, sym, ◌∙◌, ap}
use native.Mathlib.Omega.{arith}
use lib.ListN.{get_or}
use Rattle.sequences.specs.Part.{part}
use Rattle.sequences.proofs.Part.{part-part, part_get_d}
use Rattle.records.specs.Checks.{is_present, number_checks, checks}
use Rattle.records.specs.Field.{field, byte_at}
use Rattle.records.specs.RecordVerdict.{check}
use Rattle.records.specs.Laws.{ChecksByPosition}
use Rattle.records.specs.declared.kind.RecordKind.TheVariants.{Im, R14, R16, R20, R30, R40, R50, R59, R51, R70, Ef}

-- positions b to f, which lie within a to e
pub field-within : (a e b f : ℕ) (rec : List ℕ) → 1 ≤ a → a ≤ b → b ≤ f → f ≤ e → part (b - a) (f - (b - 1)) (field a e rec) ≡ field b f rec
field-within a e b f rec h k l m =
    let inside : b - a + (f - (b - 1)) ≤ e - (a - 1) = omega arith in
    let start : a - 1 + (b - a) ≡ b - 1 = omega arith in
    part-part (a - 1) (e - (a - 1)) (b - a) (f - (b - 1)) rec inside ∙ ap (λ (n : ℕ). part n (f - (b - 1)) rec) start

module _ (rec other : List ℕ) where
  within : (a e b f : ℕ) → 1 ≤ a → a ≤ b → b ≤ f → f ≤ e → field a e rec ≡ field a e other → field b f rec ≡ field b f other
  within a e b f h k l m same = sym (field-within a e b f rec h k l m) ∙ ap (part (b - a) (f - (b - 1))) same ∙ field-within a e b f other h k l m

  byte : (p : ℕ) → 1 ≤ p → field p p rec ≡ field p p other → byte_at p rec ≡ byte_at p other
  byte p h same =
      let some : 0 < p - (p - 1) = omega arith in
      let start : p - 1 + 0 ≡ p - 1 = omega arith in
      let in_field : (xs : List ℕ) → get_or (field p p xs) 0 0 ≡ byte_at p xs = λ xs. part_get_d (p - 1) (p - (p - 1)) xs 0 some ∙ ap (λ (n : ℕ). get_or xs n 0) start in
      sym (in_field rec) ∙ ap (λ (l : List ℕ). get_or l 0 0) same ∙ in_field other

-- 20, 30 and 59: the number, and what stands from 11 up to a last position
text_alike :
    (n last : ℕ) (rec other : List ℕ) → field 4 10 rec ≡ field 4 10 other → field 11 last rec ≡ field 11 last other
    → number_checks n rec ++ (check (is_present (field 11 last rec)) 7 11 ∷ []) ≡ number_checks n other ++ (check (is_present (field 11 last other)) 7 11 ∷ [])
text_alike n last rec other number text = rw (number, text)

pub checks_by_position : ChecksByPosition
unfolding checks
checks_by_position Im ctx rec other (type, (a, (b, (c, (d, (e, (f, u))))))) =
    let one = within rec other 105 111 105 105 (omega arith) (omega arith) (omega arith) (omega arith) e in
    let dollar = within rec other 105 111 106 106 (omega arith) (omega arith) (omega arith) (omega arith) e in
    let numbers = within rec other 105 111 107 111 (omega arith) (omega arith) (omega arith) (omega arith) e in
    rw (a, b, c, d, e, one, dollar, numbers, f)
checks_by_position R14 ctx rec other (type, (n, (a, (b, (c, (d, (e, (f, (g, (h, (i, u))))))))))) = rw (n, a, b, c, d, e, f, g, byte rec other 97 (omega arith) h, i)
checks_by_position R16 ctx rec other (type, (n, (a, (b, (c, (d, (e, (f, u)))))))) = rw (n, a, b, c, d, e, f)
checks_by_position R20 ctx rec other (type, (n, (a, u))) = text_alike ctx.counts.dispositions 34 rec other n a
checks_by_position R30 ctx rec other (type, (n, (a, u))) = text_alike ctx.counts.dispositions 40 rec other n a
checks_by_position R40 ctx rec other (type, (n, u)) = rw n
checks_by_position R50 ctx rec other (type, (n, u)) = rw n
checks_by_position R59 ctx rec other (type, (n, (a, u))) = text_alike ctx.counts.dispositions 65 rec other n a
checks_by_position R51 ctx rec other (type, (n, u)) = rw n
checks_by_position R70 ctx rec other (type, (n, (a, u))) = rw (n, byte rec other 94 (omega arith) a)
checks_by_position Ef ctx rec other (type, (a, (b, (c, (d, (e, (f, (g, (h, (i, u)))))))))) = rw (a, b, c, d, e, f, g, h, i)
