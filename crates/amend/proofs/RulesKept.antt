-- A record of a disposition with another number, a 14 with another amount, and a trailer with other counts keep their rules. Assumes
-- nothing.
use Prim.Native.Nat.{ℕ, ◌+◌, ◌-◌, ◌^◌, ◌≤◌, ◌<◌}
use mathlib.Core.List.{List, Memᴰ}
use mathlib.Core.Logic.{◌⊎◌, inl, inr}
use mathlib.Core.Path.{◌≡◌, refl, sym, ◌∙◌, ap, subst}
use native.Mathlib.Omega.{arith}
use lib.ListN.{length, get_or}
use Rattle.sequences.specs.Part.{part, put}
use Rattle.sequences.specs.Text.{text}
use Rattle.sequences.proofs.Part.{put-length, part-put, part-put-before, part-put_after, part_get_d, all-put}
use Rattle.fields.specs.Amount.{IsAmount}
use Rattle.fields.specs.Digits.{digits, number}
use Rattle.fields.proofs.Decimal.{written-length}
use Rattle.records.specs.Amount.{amount_in}
use Rattle.records.specs.Context.{Header}
use Rattle.records.specs.Company.{company_in}
use Rattle.records.specs.Field.{first_of, last_of}
use Rattle.records.specs.FlowKinds.{total_span}
use Rattle.records.specs.Limits.{cents_limit, count_limit}
use Rattle.records.specs.declared.flow_kind.FlowKind.{FlowKind}
use Rattle.records.specs.declared.flow_kind.FlowKind.TheVariants.{Requests, Recalls}
use Rattle.records.specs.declared.kind.RecordKind.{RecordKind}
use Rattle.records.specs.declared.kind.RecordKind.TheVariants.{Im, R14, R16, R20, R30, R40, R50, R59, R51, R70, Ef}
use Rattle.flow.specs.declared.answer.Totals.{Totals}
use Rattle.grammar.specs.Rules.{Digits, Blank, Present, CalendarDay, Says, Formed, DispositionRules, KindRules, CoordinatesRules, BesideNumber, MemberRules, TotalRules, TrailerRules}
use Rattle.grammar.proofs.Rules.{says_written, digits-printable}
use Rattle.amend.specs.Withdraw.{renumbered, recounted}

-- the digits of a number written over a record
module _ (a w v : ℕ) (rec : List ℕ) (whole : length rec ≡ 120) (fits : a + w ≤ 120) where
  within : a + length (digits w v) ≤ length rec
  within = omega (arith, written-length w v)

  pub over_length : length (put a (digits w v) rec) ≡ 120
  over_length = put-length a (digits w v) rec within ∙ whole

  -- they stand there, and a part that lies outside them stays
  pub over_says : v < 10 ^ w → Says v (part a w (put a (digits w v) rec))
  over_says small =
      let stands : part a w (put a (digits w v) rec) ≡ digits w v = ap (λ (n : ℕ). part a n (put a (digits w v) rec)) (sym (written-length w v)) ∙ part-put a (digits w v) rec within in
      subst (Says v) (sym stands) (says_written w v small)

  pub over_kept : (b n : ℕ) → (b + n ≤ a) ⊎ (a + w ≤ b) → part b n (put a (digits w v) rec) ≡ part b n rec
  over_kept b n (inl h) = part-put-before a (digits w v) rec within b n h
  over_kept b n (inr h) = part-put_after a (digits w v) rec within b n (omega (arith, written-length w v))

  -- after its type
  pub over_formed : (k : RecordKind) → 3 ≤ a → v < 10 ^ w → Formed k rec → Formed k (put a (digits w v) rec)
  over_formed k later small formed =
      record {
        whole = over_length;
        printable = all-put _ a (digits w v) rec (digits-printable (digits w v) (says_written w v small).0) formed.printable;
        type = over_kept 1 2 (inl later) ∙ formed.type;
      }

-- another record that has the same parts where a rule looks
abbrev Same : (ℕ → ℕ → Type 0) → List ℕ → List ℕ → Type 0
Same Where rec other = (a n : ℕ) → Where a n → part a n other ≡ part a n rec

byte-same : (i : ℕ) (rec other : List ℕ) → part i 1 other ≡ part i 1 rec → get_or other i 0 ≡ get_or rec i 0
byte-same i rec other e =
    let here : i + 0 ≡ i = omega arith in
    let at : (l : List ℕ) → get_or (part i 1 l) 0 0 ≡ get_or l i 0 = λ l. part_get_d i 1 l 0 (omega arith) ∙ ap (λ (j : ℕ). get_or l j 0) here in
    sym (at other) ∙ ap (λ (l : List ℕ). get_or l 0 0) e ∙ at rec

-- after the number, and outside the amount
abbrev BesideAmount : ℕ → ℕ → Type 0
BesideAmount a n = (10 ≤ a) × ((a + n ≤ 33) ⊎ (46 ≤ a))

-- a 14 stays one of its flow's kind
pub kind-same : (rec other : List ℕ) → Same BesideAmount rec other → (q : FlowKind) → KindRules q rec → KindRules q other
kind-same rec other same q r = by q r
  where
    causale : part 28 5 other ≡ part 28 5 rec
    causale = same 28 5 (omega arith, inl (omega arith))

    sign : part 46 1 other ≡ part 46 1 rec
    sign = same 46 1 (omega arith, inr (omega arith))

    by : (q : FlowKind) → KindRules q rec → KindRules q other
    by Requests r = (causale ∙ r.0, sign ∙ r.1)
    by Recalls r = (causale ∙ r.0, sign ∙ r.1)

module _ (abi rec other : List ℕ) where
  disposition-same : Same BesideAmount rec other → Digits (amount_in other) × (1 ≤ number (amount_in other)) → DispositionRules abi rec → DispositionRules abi other
  disposition-same same amount r =
      let front : (a n : ℕ) → 10 ≤ a → a + n ≤ 33 → part a n other ≡ part a n rec = λ a n h l. same a n (h, inl l) in
      let back : (a n : ℕ) → 46 ≤ a → part a n other ≡ part a n rec = λ a n h. same a n (omega arith, inr h) in
      record {
        payable = subst CalendarDay (sym (front 22 6 (omega arith) (omega arith))) r.payable;
        amount = amount;
        bank = (subst Digits (sym (back 47 5 (omega arith))) r.bank.0, back 47 5 (omega arith) ∙ r.bank.1);
        branch = subst (λ (bs : List ℕ). Blank bs ⊎ Digits bs) (sym (back 52 5 (omega arith))) r.branch;
        code_type = subst (λ (b : ℕ). Memᴰ b (text " 1234569")) (sym (byte-same 96 rec other (back 96 1 (omega arith)))) r.code_type;
        currency_code = back 119 1 (omega arith) ∙ r.currency_code;
      }

  module _ (same : (a n : ℕ) → 10 ≤ a → part a n other ≡ part a n rec) where
    coordinates-same : CoordinatesRules abi rec → CoordinatesRules abi other
    coordinates-same r =
        record {
          country = subst (λ (bs : List ℕ). (bs ≡ text "IT") ⊎ (bs ≡ text "SM")) (sym (same 10 2 (omega arith))) r.country;
          check-digits = subst Digits (sym (same 12 2 (omega arith))) r.check-digits;
          cin = subst Present (sym (same 14 1 (omega arith))) r.cin;
          bank = (subst Digits (sym (same 15 5 (omega arith))) r.bank.0, same 15 5 (omega arith) ∙ r.bank.1);
          branch = subst (λ (bs : List ℕ). Digits bs × (1 ≤ number bs)) (sym (same 20 5 (omega arith))) r.branch;
          account = subst Present (sym (same 25 12 (omega arith))) r.account;
        }

    -- what a record keeps beside its number
    beside_same : (k : RecordKind) → BesideNumber k abi rec → BesideNumber k abi other
    beside_same Im r = r
    beside_same R14 r = disposition-same (λ a n h. same a n h.0) (subst (λ (bs : List ℕ). Digits bs × (1 ≤ number bs)) (sym (same 33 13 (omega arith))) r.amount) r
    beside_same R16 r = coordinates-same r
    beside_same R20 r = subst Present (sym (same 10 24 (omega arith))) r
    beside_same R30 r = subst Present (sym (same 10 30 (omega arith))) r
    beside_same R40 r = tt
    beside_same R50 r = tt
    beside_same R59 r = subst Present (sym (same 10 55 (omega arith))) r
    beside_same R51 r = tt
    beside_same R70 r = subst (λ (b : ℕ). Memᴰ b (text " PB")) (sym (byte-same 93 rec other (same 93 1 (omega arith)))) r
    beside_same Ef r = r

-- a record of disposition i, with the number j
module _ (k : RecordKind) (abi : List ℕ) (i j : ℕ) (rec : List ℕ) (formed : Formed k rec) (small : j < count_limit) where
  pub renumbered_formed : Formed k (renumbered j rec)
  renumbered_formed = over_formed 3 7 j rec formed.whole (omega arith) k (omega arith) small formed

  pub renumbered_rules : MemberRules k abi i rec → MemberRules k abi j (renumbered j rec)
  renumbered_rules r =
      record {
        number-said = over_says 3 7 j rec formed.whole (omega arith) small;
        others = beside_same abi rec (renumbered j rec) (λ a n h. over_kept 3 7 j rec formed.whole (omega arith) a n (inr h)) k r.others;
      }

-- a 14 with another amount
abbrev pub repriced_record : ℕ → List ℕ → List ℕ
repriced_record new rec = put 33 (digits 13 new) rec

module _ (abi : List ℕ) (i new : ℕ) (rec : List ℕ) (formed : Formed R14 rec) (asked : IsAmount new) where
  small : new < 10 ^ 13
  small = let most = asked.1 in omega arith

  kept : (b n : ℕ) → (b + n ≤ 33) ⊎ (46 ≤ b) → part b n (repriced_record new rec) ≡ part b n rec
  kept = over_kept 33 13 new rec formed.whole (omega arith)

  pub repriced_formed : Formed R14 (repriced_record new rec)
  repriced_formed = over_formed 33 13 new rec formed.whole (omega arith) R14 (omega arith) small formed

  pub repriced_says : Says new (amount_in (repriced_record new rec))
  repriced_says = over_says 33 13 new rec formed.whole (omega arith) small

  pub repriced_code : company_in (repriced_record new rec) ≡ company_in rec
  repriced_code = kept 91 5 (inr (omega arith))

  pub repriced-kind : (q : FlowKind) → KindRules q rec → KindRules q (repriced_record new rec)
  repriced-kind = kind-same rec (repriced_record new rec) (λ a n h. kept a n h.1)

  pub repriced_rules : MemberRules R14 abi i rec → MemberRules R14 abi i (repriced_record new rec)
  repriced_rules r =
      record {
        number-said = subst (Says i) (sym (kept 3 7 (inl (omega arith)))) r.number-said;
        others = disposition-same abi rec (repriced_record new rec) (λ a n h. kept a n h.1) (repriced_says.0, subst (λ (v : ℕ). 1 ≤ v) (sym repriced_says.1) asked.0) r.others;
      }

-- where a trailer has its total: fifteen positions between its two counts
pub total-place : (q : FlowKind) → let s = total_span q in (53 ≤ first_of s) × (last_of s ≡ first_of s - 1 + 15) × (last_of s ≤ 82)
total-place Requests = (omega arith, refl, omega arith)
total-place Recalls = (omega arith, refl, omega arith)

-- the index at which it starts
abbrev pub total_from : FlowKind → ℕ
total_from q = first_of (total_span q) - 1

-- a trailer that says another total there, and at the other of the two places the same as before
total-said :
    (q : FlowKind) (old cents : ℕ) (rec other : List ℕ) → Says cents (part (total_from q) 15 other)
    → ((b : ℕ) → 52 ≤ b → b + 15 ≤ 82 → (b + 15 ≤ total_from q) ⊎ (total_from q + 15 ≤ b) → part b 15 other ≡ part b 15 rec) → TotalRules q old rec → TotalRules q cents other
total-said Requests old cents rec other says kept r = (says, subst (Says 0) (sym (kept 67 (omega arith) (omega arith) (inr (omega arith)))) r.1)
total-said Recalls old cents rec other says kept r = (subst (Says 0) (sym (kept 52 (omega arith) (omega arith) (inl (omega arith)))) r.0, says)

-- a trailer with other totals: with the number of dispositions, with the total too, and with all three
module _ (t : Totals) (rec : List ℕ) where
  abbrev pub with_count : List ℕ
  with_count = put 45 (digits 7 t.dispositions) rec

  abbrev pub with_total : List ℕ
  with_total = put (total_from t.kind) (digits 15 t.cents) with_count

module _ (t : Totals) (rec : List ℕ) (whole : length rec ≡ 120) where
  pub count-length : length (with_count t rec) ≡ 120
  count-length = over_length 45 7 t.dispositions rec whole (omega arith)

  pub total-length : length (with_total t rec) ≡ 120
  total-length = over_length (total_from t.kind) 15 t.cents (with_count t rec) count-length (omega (arith, total-place t.kind))

  pub recounted-length : length (recounted t rec) ≡ 120
  recounted-length = over_length 82 7 t.records (with_total t rec) total-length (omega arith)

module _ (t : Totals) (rec : List ℕ) (formed : Formed Ef rec) (few : t.dispositions < count_limit) (small : t.cents < cents_limit) (short : t.records < count_limit) where
  abbrev at : ℕ
  at = total_from t.kind

  abbrev one : List ℕ
  one = with_count t rec

  abbrev two : List ℕ
  two = with_total t rec

  place : (52 ≤ at) × (at + 15 ≤ 82)
  place = let found = total-place t.kind in (omega arith, omega arith)

  formed_one : Formed Ef one
  formed_one = over_formed 45 7 t.dispositions rec formed.whole (omega arith) Ef (omega arith) few formed

  formed_two : Formed Ef two
  formed_two = over_formed at 15 t.cents one formed_one.whole (omega (arith, place)) Ef (omega (arith, place)) small formed_one

  pub recounted_formed : Formed Ef (recounted t rec)
  recounted_formed = over_formed 82 7 t.records two formed_two.whole (omega arith) Ef (omega arith) short formed_two

  kept_one : (b w : ℕ) → (b + w ≤ 45) ⊎ (52 ≤ b) → part b w one ≡ part b w rec
  kept_one = over_kept 45 7 t.dispositions rec formed.whole (omega arith)

  kept_two : (b w : ℕ) → (b + w ≤ at) ⊎ (at + 15 ≤ b) → part b w two ≡ part b w one
  kept_two = over_kept at 15 t.cents one formed_one.whole (omega (arith, place))

  kept_three : (b w : ℕ) → (b + w ≤ 82) ⊎ (89 ≤ b) → part b w (recounted t rec) ≡ part b w two
  kept_three = over_kept 82 7 t.records two formed_two.whole (omega arith)

  -- what stands before them, and what stands after the first and outside of the others
  kept_front : (b w : ℕ) → b + w ≤ 45 → part b w (recounted t rec) ≡ part b w rec
  kept_front b w h = kept_three b w (inl (omega arith)) ∙ kept_two b w (inl (omega (arith, place))) ∙ kept_one b w (inl h)

  kept_between : (b w : ℕ) → 52 ≤ b → (b + w ≤ at) ⊎ (at + 15 ≤ b) → (b + w ≤ 82) ⊎ (89 ≤ b) → part b w (recounted t rec) ≡ part b w rec
  kept_between b w h o p = kept_three b w p ∙ kept_two b w o ∙ kept_one b w (inr h)

  pub recounted_rules : (h : Header) {t₀ : Totals} → t₀.kind ≡ t.kind → TrailerRules h t₀ rec → TrailerRules h t (recounted t rec)
  recounted_rules h {t₀} kind r =
      let says = subst (Says t.cents) (sym (kept_three at 15 (inl (omega (arith, place))))) (over_says at 15 t.cents one formed_one.whole (omega (arith, place)) small) in
      record {
        mittente = kept_front 3 5 (omega arith) ∙ r.mittente;
        ricevente = kept_front 8 5 (omega arith) ∙ r.ricevente;
        created = kept_front 13 6 (omega arith) ∙ r.created;
        name = kept_front 19 20 (omega arith) ∙ r.name;
        dispositions-said = subst (Says t.dispositions) (sym (kept_three 45 7 (inl (omega arith)) ∙ kept_two 45 7 (inl (omega (arith, place))))) (over_says 45 7 t.dispositions rec formed.whole (omega arith) few);
        cents_said = total-said t.kind t₀.cents t.cents rec (recounted t rec) says (λ b h l o. kept_between b 15 h o (inl l)) (subst (λ (q : FlowKind). TotalRules q t₀.cents rec) kind r.cents_said);
        records-said = over_says 82 7 t.records two formed_two.whole (omega arith) short;
        currency_code = kept_between 113 1 (omega arith) (inr (omega (arith, place))) (inr (omega arith)) ∙ r.currency_code;
      }
