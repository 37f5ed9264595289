-- Each call is refused by one of the numbers that document 01 gives it. Assumes nothing.
use Prim.Native.Nat.{ℕ, ◌≤◌, ◌<◌}
use mathlib.Core.Bool.{Bool, true, false, cond, ◌&&◌, ◌||◌, or-true, true≢false}
use mathlib.Core.List.{List, [], ◌∷◌, ◌++◌}
use mathlib.Core.Logic.{◌↔◌, ◌⊎◌, inl, inr}
use mathlib.Core.Path.{◌≡◌, refl, sym, ◌∙◌, ap, subst}
use lib.Dec.{eqb}
use lib.ListN.{length}
use borrow.Author.Tests.{eqb-true, eq-eqb, ne_eqb}
use Rattle.sequences.specs.Every.{every}
use Rattle.fields.proofs.Amounts.{amount-refused}
use Rattle.fields.proofs.DigitField.{field-refused}
use Rattle.fields.proofs.Gregorian.{date-refused}
use Rattle.records.specs.Checks.{is_listed, checks}
use Rattle.records.specs.Context.{Header, Context}
use Rattle.records.specs.RecordVerdict.{Check, check, right, first_fault, FirstBroken}
use Rattle.records.specs.RecordVerdict.{refused as RecordVerdict-refused}
use Rattle.records.specs.Judge.{asked, judge_as}
use Rattle.records.specs.Kinds.{closes}
use Rattle.records.specs.declared.kind.RecordKind.{RecordKind}
use Rattle.records.proofs.EachKind.{each-kind}
use Rattle.records.proofs.FirstFault.{right-not-refused}
use Rattle.records.proofs.Numbers.{numbers_of, refused_by}
use Rattle.flow.specs.Find.{IsNumber, find}
use Rattle.flow.specs.Judge.{judge}
use Rattle.flow.specs.Walking.{judge_record}
use Rattle.flow.specs.Verdict.{accepted, refused, refusal, of_call}
use Rattle.flow.specs.Verdict.{Refusal}
use Rattle.flow.specs.declared.answer.Totals.{Totals}
use Rattle.flow.specs.declared.walk.Walk.{Walk}
use Rattle.flow.proofs.Dispositions.{find-refused}
use Rattle.flow.proofs.FindWithTotals.{find_with_totals_exact}
use Rattle.grammar.specs.Fault.{Fault, bad_byte_lem, wrong_type, broken, FirstFault, wrong_length, in_record, still_due}
use Rattle.grammar.proofs.AtPlace.{FaultAt, place_fault_exact}
use Rattle.grammar.proofs.FirstFault.{first_fault_exact}
use Rattle.list.specs.Laws.{WriteFault}
use Rattle.list.specs.ReadBack.{list_of}
use Rattle.list.specs.Write.{judge_list}
use Rattle.list.proofs.Answered.{read_back-refused}
use Rattle.list.proofs.WriteNumbers.{numbers-supplied, kinds-supplied, write-refused_by}
use Rattle.list.proofs.WriteRefused.{write-refused}
use Rattle.amend.specs.Laws.{ChangeFault, not_read, no_disposition, not_an_amount, total_too_large, WithdrawFault, only_one}
use Rattle.amend.proofs.Answered.{change-refused, withdraw-refused}
use Rattle.evenings.specs.Compare.{account_between}
use Rattle.evenings.specs.Laws.{PairFault, old_not_read, new_not_read, too_many, kinds-differ, little_memory, CanCompare}
use Rattle.evenings.proofs.Refused.{compare-refused, line_refused}
use Rattle.claims.specs.Demand1.{OneOf, record_numbers, place_numbers, reading_numbers, finding_numbers, writing_numbers, reading_back_numbers, change_numbers, withdrawal_numbers, comparing_numbers, line_numbers, NumbersGiven}

-- numbers that are all among others, as a test that computes; and one of the first is one of the others
abbrev are_among : List ℕ → List ℕ → Bool
are_among ns ms = every (λ (m : ℕ). is_listed m ns) ms

among : (ns ms : List ℕ) (n : ℕ) → are_among ns ms ≡ true → OneOf ms n → OneOf ns n
among ns [] n all h = absurd (true≢false (sym h))
among ns (m ∷ ms) n all h = by (eqb n m) refl (is_listed m ns) refl all h (among ns ms n)
  where
    by : (a : Bool) → eqb n m ≡ a → (b : Bool) → is_listed m ns ≡ b → (b && are_among ns ms) ≡ true → (a || is_listed n ms) ≡ true → (are_among ns ms ≡ true → OneOf ms n → OneOf ns n) → OneOf ns n
    by true e true l all h rest = subst (OneOf ns) (sym (eqb-true n m e)) l
    by false e true l all h rest = rest all h
    by a e false l all h rest = absurd (true≢false (sym all))

-- and one that is not the first of some is one of the others
other_than : (m : ℕ) (ns : List ℕ) (n : ℕ) → ¬ (n ≡ m) → OneOf (m ∷ ns) n → OneOf ns n
other_than m ns n differs h = rw (ne_eqb n m differs) at h

-- a check's number is one of theirs
broken-number : (held others : List Check) (n p : ℕ) → OneOf (numbers_of (held ++ (check false n p ∷ others))) n
broken-number [] others n p = rw (eq-eqb n n refl)
broken-number (check holds m q ∷ held) others n p = rw (broken-number held others n p, or-true)

-- so is the number of the first check of a row that fails
row-broken : (ctx : Context) (rec : List ℕ) (k : RecordKind) (n p : ℕ) → FirstBroken (checks k ctx rec) n p → OneOf (numbers_of (checks k ctx rec)) n
row-broken ctx rec k n p (held, others, same, h) = subst (λ (cs : List Check). OneOf (numbers_of cs) n) (sym same) (broken-number held others n p)

-- one record: the numbers of every row, and 1 for its length
row_number : (ctx : Context) (rec : List ℕ) (k : RecordKind) (n : ℕ) → OneOf (numbers_of (checks k ctx rec)) n → OneOf record_numbers n
unfolding checks
row_number ctx rec k n h =
    among record_numbers (numbers_of (checks k ctx rec)) n
    (each-kind (λ (k : RecordKind). are_among record_numbers (numbers_of (checks k ctx rec)) ≡ true) (refl, (refl, (refl, (refl, (refl, (refl, (refl, (refl, (refl, (refl, (refl, tt))))))))))) k) h

record_judging : (k : RecordKind) (ctx : Context) (rec : List ℕ) (n p : ℕ) → judge_as k ctx rec ≡ RecordVerdict-refused n p → OneOf record_numbers n
unfolding judge_as
record_judging k ctx rec n p = by (eqb (length rec) 120)
  where
    told : (is_listed n (numbers_of (checks k ctx rec)) ≡ true) ⊎ (right k (asked k rec) ≡ RecordVerdict-refused n p) → OneOf record_numbers n
    told (inl h) = row_number ctx rec k n h
    told (inr h) = absurd (right-not-refused (sym h))

    by : (b : Bool) → cond b (first_fault (checks k ctx rec) (right k (asked k rec))) (RecordVerdict-refused 1 0) ≡ RecordVerdict-refused n p → OneOf record_numbers n
    by true e = told (refused_by (checks k ctx rec) (right k (asked k rec)) n p e)
    by false e = let one : 1 ≡ n = cc in subst (OneOf record_numbers) one refl

-- at its place: 2, 3, or a number of the row of its kind
place-number : {may : RecordKind → Type 0} {asked : RecordKind → Context} {rec : List ℕ} {n p : ℕ} → Fault may asked rec n p → OneOf place_numbers n
place-number (bad_byte_lem bs b cs same before bad) = refl
place-number (wrong_type printable none) = refl
place-number {rec = rec} (broken k n p printable type permitted first) = among place_numbers record_numbers n refl (row_number _ rec k n (row-broken _ rec k n p first))

walking : (header : Header) (w : Walk) (company : List ℕ) (i : ℕ) (rec : List ℕ) (n p : ℕ) → judge_record header w company i rec ≡ RecordVerdict-refused n p → OneOf place_numbers n
walking header w company i rec n p e = by (eqb (length rec) 120) refl
  where
    exact : (length rec ≡ 120 → (n p : ℕ) → (judge_record header w company i rec ≡ RecordVerdict-refused n p) ↔ FaultAt header w company i rec n p) × (¬ (length rec ≡ 120) → judge_record header w company i rec ≡ RecordVerdict-refused 1 0)
    exact = place_fault_exact header w company i rec

    by : (b : Bool) → eqb (length rec) 120 ≡ b → OneOf place_numbers n
    by true t = place-number ((exact.0 (eqb-true (length rec) 120 t) n p).0 e)
    by false t =
        let same : RecordVerdict-refused 1 0 ≡ RecordVerdict-refused n p = sym (exact.1 (λ whole. true≢false (sym (eq-eqb (length rec) 120 whole) ∙ t))) ∙ e in
        let one : 1 ≡ n = cc in
        subst (OneOf place_numbers) one refl

-- reading
read_number : {f : List ℕ} {x : Refusal} → FirstFault f x → OneOf reading_numbers x.number
read_number (wrong_length wrong) = refl
read_number (in_record before rec after n p sized same each fault) = among reading_numbers place_numbers n refl (place-number fault)
read_number (still_due sized each none) = refl

reading : (f : List ℕ) (x : Refusal) → judge f ≡ refused x → OneOf reading_numbers x.number
reading f x e = read_number ((first_fault_exact f x).0 e)

-- where a disposition is
finding : (f : List ℕ) (k : ℕ) (x : Refusal) → find f k ≡ refused x → OneOf finding_numbers x.number
finding f k x e = by ((find-refused f k x).0 e)
  where
    by : (judge f ≡ refused x) ⊎ ((t : Totals) × (judge f ≡ accepted t) × ¬ IsNumber k t.dispositions × (x ≡ of_call 15)) → OneOf finding_numbers x.number
    by (inl wrong) = among finding_numbers reading_numbers x.number refl (reading f x wrong)
    by (inr (t, read, none, same)) = rw same

-- writing: those of every row but that of EF, which no item encodes; 9 and 22, which stand in them, are taken out at the end
abbrev row_numbers : List ℕ
row_numbers = 9 ∷ 22 ∷ writing_numbers

writing-row : (ctx : Context) (rec : List ℕ) (k : RecordKind) → closes k ≡ false → are_among row_numbers (numbers_of (checks k ctx rec)) ≡ true
unfolding checks
writing-row ctx rec =
    each-kind (λ (k : RecordKind). closes k ≡ false → are_among row_numbers (numbers_of (checks k ctx rec)) ≡ true)
    (λ h. refl, (λ h. refl, (λ h. refl, (λ h. refl, (λ h. refl, (λ h. refl, (λ h. refl, (λ h. refl, (λ h. refl, (λ h. refl, (λ h. absurd (true≢false h), tt)))))))))))

write-number : {list : List ℕ} {room : ℕ} {x : Refusal} → WriteFault list room x → OneOf row_numbers x.number
write-number =
    write-refused_by (OneOf row_numbers) refl refl (λ k ctx rec so n p first. among row_numbers (numbers_of (checks k ctx rec)) n (writing-row ctx rec k so.not_ef) (row-broken ctx rec k n p first)) refl refl refl refl

writing : (list : List ℕ) (room : ℕ) (x : Refusal) → judge_list list room ≡ refused x → OneOf writing_numbers x.number
writing list room x e =
    let by : (n : ℕ) → x.number ≡ n → judge_list list room ≡ refused (refusal n x.«record» x.position) = λ n same. e ∙ ap (λ (m : ℕ). refused (refusal m x.«record» x.position)) same in
    other_than 22 writing_numbers x.number (λ same. kinds-supplied list room x.«record» x.position (by 22 same))
    (other_than 9 (22 ∷ writing_numbers) x.number (λ same. numbers-supplied list room x.«record» x.position (by 9 same)) (write-number ((write-refused list room x).0 e)))

-- the calls that read first, and then have numbers of their own
change-number : {f : List ℕ} {k new : ℕ} {x : Refusal} → ChangeFault f k new x → OneOf change_numbers x.number
change-number {f} (not_read x wrong) = among change_numbers reading_numbers x.number refl (reading f x wrong)
change-number (no_disposition t read none) = refl
change-number (not_an_amount t read some not-one) = refl
change-number (total_too_large t s read found asked large) = refl

withdraw-number : {f : List ℕ} {k : ℕ} {x : Refusal} → WithdrawFault f k x → OneOf withdrawal_numbers x.number
withdraw-number {f} (not_read x wrong) = among withdrawal_numbers reading_numbers x.number refl (reading f x wrong)
withdraw-number (no_disposition t read none) = refl
withdraw-number (only_one t read count one) = refl

abbrev pair_numbers : List ℕ
pair_numbers = reading_numbers ++ (27 ∷ 28 ∷ 34 ∷ [])

pair_number : {old new : List ℕ} {lent : ℕ} {x : Refusal} → PairFault old new lent x → OneOf pair_numbers x.number
pair_number {old} (old_not_read x wrong) = among pair_numbers reading_numbers x.number refl (reading old x wrong)
pair_number {old} {new} (new_not_read t x read wrong) = among pair_numbers reading_numbers x.number refl (reading new x wrong)
pair_number (too_many t u read read' many) = refl
pair_number (kinds-differ t u read read' few few' other) = refl
pair_number (little_memory t u read read' few few' same short) = refl

pub numbers_given : NumbersGiven
numbers_given =
    record {
      digits = λ bs n e. rw ((field-refused bs n).0 e).0;
      amount = λ bs n e. by_field n 25 ((amount-refused bs n).0 e);
      date = λ bs n e. by_field n 8 ((date-refused bs n).0 e);
      record_judging = record_judging;
      walking = walking;
      reading = reading;
      finding = finding;
      finding_with_totals = λ f k x e. finding f k x (((find_with_totals_exact f k).1 x).0 e);
      writing = writing;
      reading_back = λ f room x e. by_room f room x ((read_back-refused f room x).0 e);
      changing = λ f k new x e. change-number ((change-refused f k new x).0 e);
      withdrawing = λ f k x e. withdraw-number ((withdraw-refused f k x).0 e);
      comparing = λ old new lent room x e. by_pair old new lent room x ((compare-refused old new lent room x).0 e);
      asking_a_line = λ old new lent n x e. by_line_lem old new lent n x ((line_refused old new lent n x).0 e);
    }
  where
    by_field : {P Q R : Type 0} (n k : ℕ) → ((n ≡ 5) × P) ⊎ ((n ≡ k) × Q × R) → OneOf (5 ∷ k ∷ []) n
    by_field n k (inl h) = rw h.0
    by_field n k (inr h) = rw (h.0, eq-eqb k k refl, or-true)

    by_room :
        (f : List ℕ) (room : ℕ) (x : Refusal) → (judge f ≡ refused x) ⊎ ((t : Totals) × (judge f ≡ accepted t) × (room < length (list_of f)) × (x ≡ of_call 21))
        → OneOf reading_back_numbers x.number
    by_room f room x (inl e) = among reading_back_numbers reading_numbers x.number refl (reading f x e)
    by_room f room x (inr (t, e, short, same)) = rw same

    by_pair :
        (old new : List ℕ) (lent room : ℕ) (x : Refusal) → PairFault old new lent x ⊎ (CanCompare old new lent × (room < length (account_between old new)) × (x ≡ of_call 21))
        → OneOf comparing_numbers x.number
    by_pair old new lent room x (inl f) = among comparing_numbers pair_numbers x.number refl (pair_number f)
    by_pair old new lent room x (inr h) = rw h.2

    by_line_lem :
        (old new : List ℕ) (lent n : ℕ) (x : Refusal) → PairFault old new lent x ⊎ (CanCompare old new lent × ¬ ((1 ≤ n) × (n ≤ length (account_between old new))) × (x ≡ of_call 15))
        → OneOf line_numbers x.number
    by_line_lem old new lent n x (inl f) = among line_numbers pair_numbers x.number refl (pair_number f)
    by_line_lem old new lent n x (inr h) = rw h.2
