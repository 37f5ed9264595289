-- The trailer that a list encodes keeps the rules of EF. Assumes nothing.
use Prim.Native.Nat.{ℕ, ◌+◌, ◌-◌, ◌^◌, ◌≤◌, ◌<◌}
use mathlib.Core.Bool.{true}
use mathlib.Core.List.{List}
use mathlib.Core.Path.{◌≡◌, refl, sym, ◌∙◌, ap, subst}
use native.Mathlib.Omega.{arith}
use lib.ListN.{length}
use Rattle.sequences.specs.All.{All}
use Rattle.sequences.specs.Part.{part}
use Rattle.sequences.proofs.Part.{part-part}
use Rattle.fields.specs.Digits.{digits}
use Rattle.fields.proofs.Decimal.{written-digits}
use Rattle.records.specs.Bytes.{bad_from, bad_byte}
use Rattle.records.specs.Constants.{currency}
use Rattle.records.specs.Context.{header_of}
use Rattle.records.specs.Field.{◌to◌, width, field}
use Rattle.records.specs.FlowKinds.{total_at, or_requests}
use Rattle.records.specs.Kinds.{type_of, opened}
use Rattle.records.specs.declared.flow_kind.FlowKind.{FlowKind}
use Rattle.records.specs.declared.flow_kind.FlowKind.TheVariants.{Requests, Recalls}
use Rattle.records.specs.declared.kind.RecordKind.TheVariants.{Ef}
use Rattle.records.proofs.Checked.{field-within}
use Rattle.flow.specs.Judge.{walk_totals}
use Rattle.flow.specs.Walking.{counts_at}
use Rattle.flow.specs.declared.answer.Totals.{Totals}
use Rattle.flow.specs.declared.walk.Walk.{Walk}
use Rattle.grammar.specs.Rules.{Says, Printable, Formed, TotalRules, TrailerRules}
use Rattle.grammar.proofs.AtPlace.{asks, May, RightAt}
use Rattle.grammar.proofs.Rules.{digits_exact, digits-printable, printable_exact, says_written, counts_told, trailer_rules}
use Rattle.list.specs.Table.{carried}
use Rattle.list.specs.Encode.{blanks, carried_at, copied_in, trailer_placed, encode_trailer}
use Rattle.list.specs.declared.table.ItemKind.TheVariants.{H}
use Rattle.list.proofs.Carried.{in_one}
use Rattle.list.proofs.AllRecords.{trailer-length, trailer-type, trailer_copied, trailer-dispositions, trailer-asked, trailer_recalled, trailer-records, trailer-currency}
use Rattle.list.proofs.Placing.{all-part, AllPlaced, fill-all}

-- the counts that it says
pub record Counted (t : Totals) : Type 0 where
  pub dispositions : t.dispositions < 10 ^ 7
  pub cents : t.cents < 10 ^ 15
  pub records : t.records < 10 ^ 7

-- `header` is a body of H or Q that carries what the record `im` has
pub record Meant (im header : List ℕ) : Type 0 where
  pub sized : length header ≡ 49
  pub carries : (a e : ℕ) → in_one (carried (H Requests)) a e ≡ true → field a e im ≡ carried_at (H Requests) (a to e) header
  pub printable : All Printable im
  pub code : field 114 114 im ≡ currency

-- what is written at the two places of the total says the sum at the one and zeros at the other
total-said :
    (q : FlowKind) (cents : ℕ) (rec : List ℕ) → field 53 67 rec ≡ digits 15 (total_at q 53 cents) → field 68 82 rec ≡ digits 15 (total_at q 68 cents) → cents < 10 ^ 15
    → TotalRules q cents rec
total-said Requests cents rec asked recalled small = (subst (Says cents) (sym asked) (says_written 15 cents small), subst (Says 0) (sym recalled) (says_written 15 0 (omega arith)))
total-said Recalls cents rec asked recalled small = (subst (Says 0) (sym asked) (says_written 15 0 (omega arith)), subst (Says cents) (sym recalled) (says_written 15 cents small))

module _ (im header : List ℕ) (meant : Meant im header) (t : Totals) where
  abbrev trailer : List ℕ
  trailer = encode_trailer header t

  -- positions of 4-45 are the header's
  pub copied_at : (a e : ℕ) → 4 ≤ a → a ≤ e → e ≤ 45 → field a e trailer ≡ part (a - 4) (width (a to e)) header
  copied_at a e h k l =
      let size = meant.sized in
      let inside : a - 4 + width (a to e) ≤ 42 = omega arith in
      let start : 0 + (a - 4) ≡ a - 4 = omega arith in
      sym (field-within 4 45 a e trailer (omega arith) h k l)
      ∙ ap (part (a - 4) (width (a to e))) (trailer_copied header t (omega arith))
      ∙ part-part 0 42 (a - 4) (width (a to e)) header inside
      ∙ ap (λ (m : ℕ). part m (width (a to e)) header) start

  pub trailer_formed : Formed Ef trailer
  unfolding encode_trailer bad_from
  trailer_formed =
      let fixed : (bs : List ℕ) → bad_byte bs ≡ 0 → All Printable bs = λ bs. (printable_exact bs).0 in
      let number : (w v : ℕ) → All Printable (digits w v) = λ w v. digits-printable (digits w v) ((digits_exact (digits w v)).0 (written-digits w v)) in
      let copied : All Printable (copied_in header) = subst (All Printable) (meant.carries 4 45 refl) (all-part Printable 3 42 im meant.printable) in
      let placed : All (AllPlaced Printable) (trailer_placed (copied_in header) t) = (fixed (type_of Ef) refl, (copied, (number 7 t.dispositions, (number 15 (total_at t.kind 53 t.cents), (number 15 (total_at t.kind 68 t.cents), (number 7 t.records, (fixed currency refl, tt))))))) in
      record {
        whole = trailer-length header t;
        printable = fill-all Printable (trailer_placed (copied_in header) t) blanks placed (fixed blanks refl);
        type = trailer-type header t;
      }

  pub trailer-keeps : Counted t → TrailerRules (header_of im) t trailer
  trailer-keeps counted =
      record {
        mittente = copied_at 4 8 (omega arith) (omega arith) (omega arith) ∙ sym (meant.carries 4 8 refl);
        ricevente = copied_at 9 13 (omega arith) (omega arith) (omega arith) ∙ sym (meant.carries 9 13 refl);
        created = copied_at 14 19 (omega arith) (omega arith) (omega arith) ∙ sym (meant.carries 14 19 refl);
        name = copied_at 20 39 (omega arith) (omega arith) (omega arith) ∙ sym (meant.carries 20 39 refl);
        dispositions-said = subst (Says t.dispositions) (sym (trailer-dispositions header t)) (says_written 7 t.dispositions counted.dispositions);
        cents_said = total-said t.kind t.cents trailer (trailer-asked header t) (trailer_recalled header t) counted.cents;
        records-said = subst (Says t.records) (sym (trailer-records header t)) (says_written 7 t.records counted.records);
        currency_code = trailer-currency header t ∙ sym meant.code;
      }

  -- so it is right where EF may come and the walk has counted as it says
  pub trailer-right :
      Counted t → (w : Walk) (company : List ℕ) (i : ℕ) → May w Ef → walk_totals w i ≡ t → RightAt (header_of im) w company i Ef trailer
  trailer-right counted w company i may same =
      let none : w.dispositions ≡ w.dispositions + opened Ef = omega arith in
      let q = or_requests w.kind in
      let told : t ≡ counts_told q (counts_at w i Ef) = sym same ∙ (λ j. record { kind = q; dispositions = none j; cents = w.cents; records = i }) in
      let rules : TrailerRules (header_of im) (counts_told q (counts_at w i Ef)) trailer = subst (λ (u : Totals). TrailerRules (header_of im) u trailer) told (trailer-keeps counted) in
      record { may = may; formed = trailer_formed; keeps = (trailer_rules (asks (header_of im) w company i Ef) trailer).1 rules }
