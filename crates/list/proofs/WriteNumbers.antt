-- The numbers that a list can be refused by. Each record that is encoded has an item's kind, the number that the reader asks for and the causale
-- of the header meant, so that none is refused by a check of EF, by 9 or by 22. Assumes nothing.
use Prim.Native.Nat.{ℕ, ◌+◌, ◌^◌, ◌≤◌, ◌<◌}
use mathlib.Core.Bool.{Bool, true, false, cond, not, ◌&&◌, ◌||◌, and-eq-true_iff, true≢false}
use mathlib.Core.List.{List, [], ◌∷◌, ◌++◌, nil≢cons, head-eq_of_cons-eq, tail-eq_of_cons-eq}
use mathlib.Core.Path.{◌≡◌, refl, sym, ◌∙◌, ap, subst}
use native.Mathlib.Omega.{arith}
use lib.Dec.{eqb}
use lib.ListN.{length, take}
use borrow.Author.Tests.{eq-eqb}
use Rattle.sequences.specs.All.{All}
use Rattle.sequences.proofs.All.{all-before}
use Rattle.fields.specs.Digits.{number}
use Rattle.fields.proofs.Bytes.{equal_exact}
use Rattle.fields.proofs.Decimal.{written_read_fits}
use Rattle.records.specs.Checks.{checks}
use Rattle.records.specs.Context.{Context, header_of}
use Rattle.records.specs.Field.{field}
use Rattle.records.specs.RecordVerdict.{Check, check, FirstBroken}
use Rattle.records.specs.FlowKinds.{causale, kind_in, is_of, or_requests, first_known}
use Rattle.records.specs.Kinds.{type_of, has_type, heads, opens, opened, closes, is_opening}
use Rattle.records.specs.declared.kind.RecordKind.{RecordKind}
use Rattle.records.specs.declared.kind.RecordKind.TheVariants.{Im}
use Rattle.records.proofs.ByKind.{types_differ, type-said, type_tested, opens-type}
use Rattle.records.proofs.EachKind.{each-kind, heads_im}
use Rattle.flow.specs.Records.{records_of}
use Rattle.flow.specs.Order.{place_due}
use Rattle.flow.specs.ExactTotals.{opening_count, kind_from}
use Rattle.flow.specs.Walking.{start}
use Rattle.flow.specs.declared.order.Due.TheVariants.{OnlyIm}
use Rattle.flow.specs.Verdict.{refusal}
use Rattle.flow.specs.Verdict.{Refusal}
use Rattle.flow.proofs.Cut.{Whole, joined_records}
use Rattle.flow.proofs.Reading.{one_at_most}
use Rattle.grammar.specs.Fault.{EachRight, context_after, bad_byte_lem, wrong_type, broken, FaultAfter, FirstFault, wrong_length, in_record, still_due}
use Rattle.grammar.specs.Grammar.{Typed, kinds_of, records_in}
use Rattle.grammar.proofs.ContextAfter.{formed_so, walked_of}
use Rattle.grammar.proofs.FirstFault.{first_fault_exact}
use Rattle.grammar.proofs.Order.{Allowed, header_only_first}
use Rattle.grammar.proofs.Walked.{AllFormed, walked_allowed}
use Rattle.list.specs.Encode.{HeaderMeant, no_header, header_after, encode_item, encode_from, records_for}
use Rattle.list.specs.Items.{Item, record_kind, Proper}
use Rattle.list.specs.Laws.{WriteFault, no_item, too_many, no_room, no_trailer, too_much, NumbersSupplied, KindsSupplied}
use Rattle.list.specs.Laws.{in_record as Write-in-record}
use Rattle.list.proofs.AllRecords.{encoded-whole, encoded-count}
use Rattle.list.proofs.ItemKinds.{opens_d, item_open}
use Rattle.list.proofs.Judging.{front, encoded-opens, header_stays_one, MayMean, mean_on}
use Rattle.list.proofs.ListItems.{items_exact}
use Rattle.list.proofs.OneRecord.{encoded-type, encoded-number, encoded-causale}
use Rattle.list.proofs.WriteRefused.{write-refused}
use Rattle.records.specs.declared.flow_kind.FlowKind.{FlowKind}
use Rattle.std.specs.Prelude.{Option, Some, None}

-- what the writer supplies to a record, where it is asked with what the records before it say: a kind other than EF's; in a disposition, its
-- number; and to a 14 a causale that may stand there
pub record Supplied (rec : List ℕ) (k : RecordKind) (ctx : Context) : Type 0 where
  pub not_ef : closes k ≡ false
  pub numbered : heads k ≡ false → number (field 4 10 rec) ≡ ctx.counts.dispositions
  pub kindred : opens k ≡ true → is_of ctx.kind (field 29 33 rec) ≡ true

-- its kind and its number
record Numbered (rec : List ℕ) (k : RecordKind) (count : ℕ) : Type 0 where
  not_ef : closes k ≡ false
  numbered : heads k ≡ false → number (field 4 10 rec) ≡ count

encoded_numbered :
    (n : ℕ) (header : HeaderMeant) (is : List Item) → All Proper is → n + length is < 10 ^ 7 → (before : List (List ℕ)) (rec : List ℕ) (after : List (List ℕ)) → encode_from n header is ≡ before ++ (rec ∷ after)
    → (k : RecordKind) → field 2 3 rec ≡ type_of k → Numbered rec k (n + (opening_count before + opened k))
unfolding encode_from opening_count
encoded_numbered n header [] proper few [] rec after same k type = absurd (nil≢cons same)
encoded_numbered n header [] proper few (b ∷ before) rec after same k type = absurd (nil≢cons same)
encoded_numbered n header (it ∷ is) proper few [] rec after same k type =
    let own : encode_item (n + opened (record_kind it)) header it ≡ rec = head-eq_of_cons-eq same in
    let kind : record_kind it ≡ k = types_differ (record_kind it) k (sym (encoded-type _ header it proper.0) ∙ ap (field 2 3) own ∙ type) in
    let small : n + opened (record_kind it) < 10 ^ 7 = omega (arith, one_at_most (record_kind it)) in
    let count : n + opened (record_kind it) ≡ n + (0 + opened k) = ap (λ (l : RecordKind). n + opened l) kind ∙ omega arith in
    record {
      not_ef = sym (ap closes kind) ∙ item_open it.kind;
      numbered = λ member. ap (λ (l : List ℕ). number (field 4 10 l)) (sym own)
          ∙ ap number (encoded-number (n + opened (record_kind it)) header it proper.0 (ap heads kind ∙ member))
          ∙ written_read_fits 7 (n + opened (record_kind it)) small
          ∙ count;
    }
encoded_numbered n header (it ∷ is) proper few (b ∷ before) rec after same k type =
    let m = n + opened (record_kind it) in
    let own : encode_item m header it ≡ b = head-eq_of_cons-eq same in
    let opens_so : cond (is_opening b) 1 0 ≡ opened (record_kind it) = ap (λ (l : List ℕ). cond (is_opening l) 1 0) (sym own) ∙ ap (λ (t : Bool). cond t 1 0) (encoded-opens m header it proper.0) in
    let rest = encoded_numbered m (header_after header it) is proper.1 (omega (arith, one_at_most (record_kind it))) before rec after (tail-eq_of_cons-eq same) k type in
    record { not_ef = rest.not_ef; numbered = λ member. rest.numbered member ∙ omega arith }

-- a record 14 may stand after records under one header, where the kind found before them is none or the one that it means
under_one :
    (n : ℕ) (header : HeaderMeant) (is : List Item) → All Proper is → (x : Option FlowKind) → MayMean x header.kind → (before : List (List ℕ)) (rec : List ℕ) (after : List (List ℕ))
    → encode_from n header is ≡ before ++ (rec ∷ after) → All (λ (b : List ℕ). has_type Im b ≡ false) before
    → (k : RecordKind) → field 2 3 rec ≡ type_of k → opens k ≡ true → is_of (kind_from x before) (field 29 33 rec) ≡ true
unfolding encode_from kind_from
under_one n header [] proper x mean [] rec after same none k type o = absurd (nil≢cons same)
under_one n header [] proper x mean (b ∷ before) rec after same none k type o = absurd (nil≢cons same)
under_one n header (it ∷ is) proper x mean [] rec after same none k type o =
    let m = n + opened (record_kind it) in
    let own : encode_item m header it ≡ rec = head-eq_of_cons-eq same in
    let kind : record_kind it ≡ k = types_differ (record_kind it) k (sym (encoded-type m header it proper.0) ∙ ap (field 2 3) own ∙ type) in
    let causale-so : field 29 33 rec ≡ causale header.kind = ap (field 29 33) (sym own) ∙ encoded-causale m header it proper.0 (opens_d it.kind (ap opens kind ∙ o)) in
    may x mean causale-so
  where
    may : (x : Option FlowKind) → MayMean x header.kind → field 29 33 rec ≡ causale header.kind → is_of x (field 29 33 rec) ≡ true
    may None e c = refl
    may (Some p) e c = (equal_exact (field 29 33 rec) (causale p)).1 (c ∙ sym (ap (λ (y : Option FlowKind). causale (or_requests y)) e))
under_one n header (it ∷ is) proper x mean (b ∷ before) rec after same none k type o =
    let m = n + opened (record_kind it) in
    let own : encode_item m header it ≡ b = head-eq_of_cons-eq same in
    let shut : heads (record_kind it) ≡ false = not-header (record_kind it) b (sym (ap (field 2 3) own) ∙ encoded-type m header it proper.0) none.0 in
    let stays : header_after header it ≡ header = header_stays_one header it shut in
    let on : MayMean (cond (is_opening b) (first_known x (kind_in b)) x) header.kind = subst (λ (rec : List ℕ). MayMean (cond (is_opening rec) (first_known x (kind_in rec)) x) header.kind) own (mean_on m header it proper.0 x mean) in
    under_one m header is proper.1 (cond (is_opening b) (first_known x (kind_in b)) x) on before rec after (ap (λ (h : HeaderMeant). encode_from m h is) (sym stays) ∙ tail-eq_of_cons-eq same) none.1 k type o
  where
    not-header : (l : RecordKind) (b : List ℕ) → field 2 3 b ≡ type_of l → has_type Im b ≡ false → heads l ≡ false
    not-header l b t other = by (heads l) refl
      where
        by : (c : Bool) → heads l ≡ c → heads l ≡ false
        by true e = absurd (true≢false (sym (type_tested Im b (t ∙ ap type_of (heads_im l e))) ∙ other))
        by false e = e

-- so may any 14 that is encoded: the records before it are right, and only the first is a header
encoded_kindred :
    (is : List Item) → All Proper is → (before : List (List ℕ)) (rec : List ℕ) (after : List (List ℕ)) → records_for is ≡ before ++ (rec ∷ after) → EachRight (front is) before
    → (k : RecordKind) → field 2 3 rec ≡ type_of k → opens k ≡ true → is_of (kind_from None before) (field 29 33 rec) ≡ true
unfolding encode_from kind_from
encoded_kindred is proper [] rec after same each k type o = refl
encoded_kindred [] proper (b ∷ before) rec after same each k type o = absurd (nil≢cons same)
encoded_kindred (it ∷ is) proper (b ∷ before) rec after same each k type o =
    let all = it ∷ is in
    let whole : Whole (b ∷ before) = all-before (λ (l : List ℕ). length l ≡ 120) (b ∷ before) (rec ∷ after) (subst Whole same (encoded-whole 0 no_header all proper)) in
    let walked = walked_of (front all) (b ∷ before) whole each in
    let kinds = first_only walked.0 walked.1 (formed_so (front all) walked.0 walked.2) (walked_allowed (header_of (take 120 (front all))) start [] 0 walked.0 walked.2) in
    let shut : is_opening b ≡ false = kinds.0 in
    let header = header_after no_header it in
    ap (λ (c : Bool). is_of (kind_from (cond c (first_known None (kind_in b)) None) before) (field 29 33 rec)) shut
    ∙ under_one (0 + opened (record_kind it)) header is proper.1 None refl before rec after (tail-eq_of_cons-eq same) kinds.1 k type o
  where
    others : (rs : List Typed) → AllFormed rs → All (λ (l : RecordKind). heads l ≡ false) (kinds_of rs) → All (λ (c : List ℕ). has_type Im c ≡ false) (records_in rs)
    others [] formed none = tt
    others (r ∷ rs) formed none = (other (has_type Im r.bytes) refl, others rs formed.1 none.1)
      where
        other : (c : Bool) → has_type Im r.bytes ≡ c → has_type Im r.bytes ≡ false
        other true e = absurd (true≢false (ap heads (types_differ Im r.kind (sym (type-said Im r.bytes e) ∙ formed.0.type)) ∙ none.0))
        other false e = e

    first_only : (rs : List Typed) → records_in rs ≡ b ∷ before → AllFormed rs → Allowed (place_due OnlyIm) (kinds_of rs) → (is_opening b ≡ false) × All (λ (c : List ℕ). has_type Im c ≡ false) before
    first_only [] e formed allowed = absurd (nil≢cons e)
    first_only (r ∷ rs) e formed allowed =
        let only = header_only_first r.kind (kinds_of rs) allowed in
        let first : is_opening r.bytes ≡ false = sym (opens-type r.kind r.bytes (type_tested r.kind r.bytes formed.0.type)) ∙ ap opens only.0 in
        (subst (λ (c : List ℕ). is_opening c ≡ false) (head-eq_of_cons-eq e) first, subst (All (λ (c : List ℕ). has_type Im c ≡ false)) (tail-eq_of_cons-eq e) (others rs formed.1 only.1))

-- what holds of the numbers of writing itself, of 2 and 3, and of whatever the first check of such a record that fails gives, holds of every
-- number that a list is refused by
module _
    (P : ℕ → Type 0) (bad : P 2) (type : P 3) (rows : (k : RecordKind) (ctx : Context) (rec : List ℕ) → Supplied rec k ctx → (n p : ℕ) → FirstBroken (checks k ctx rec) n p → P n)
  where
    in_records : (is : List Item) → All Proper is → length is < 10 ^ 7 → {x : Refusal} → FirstFault (front is) x → 1 ≤ x.«record» → x.«record» ≤ length is → P x.number
    in_records is proper few (wrong_length wrong) some within = absurd (omega arith)
    in_records is proper few (in_record before rec after n p sized same each fault) some within = by fault
      where
        own : records_for is ≡ before ++ (rec ∷ after)
        own = sym (joined_records (records_for is) (encoded-whole 0 no_header is proper)) ∙ same

        by : {n p : ℕ} → FaultAfter (front is) before rec n p → P n
        by (bad_byte_lem bs b cs e all outside) = bad
        by (wrong_type printable none) = type
        by (broken k n p printable of_type permitted first) =
            let ctx = context_after (front is) before k in
            let so = encoded_numbered 0 no_header is proper (omega arith) before rec after own k of_type in
            rows k ctx rec (record { not_ef = so.not_ef; numbered = λ member. so.numbered member ∙ omega arith; kindred = λ o. encoded_kindred is proper before rec after own each k of_type o }) n p first
    in_records is proper few (still_due sized each none) some within =
        let count : length (records_of (front is)) ≡ length is = ap (λ (l : List (List ℕ)). length l) (joined_records (records_for is) (encoded-whole 0 no_header is proper)) ∙ encoded-count 0 no_header is in
        absurd (omega arith)

    pub write-refused_by : P 1 → P 17 → P 20 → P 21 → {list : List ℕ} {room : ℕ} {x : Refusal} → WriteFault list room x → P x.number
    write-refused_by one much item room (no_item m at) = item
    write-refused_by one much item room (too_many is said many) = one
    write-refused_by one much item room (no_room is said few short) = room
    write-refused_by one much item room {list} (Write-in-record is x fits e some within) =
        in_records is ((items_exact list is).0 fits.said).1 (omega (arith, fits.few)) ((first_fault_exact (front is) x).0 e) some within
    write-refused_by one much item room (no_trailer is fits each none) = type
    write-refused_by one much item room (too_much is fits each follows large) = much

-- each check that refuses by n holds
abbrev hold_by : ℕ → List Check → Bool
hold_by n [] = true
hold_by n (check holds m p ∷ cs) = (not (eqb m n) || holds) && hold_by n cs

-- so that the first that fails has another number
not_by : (n p : ℕ) (held others : List Check) → hold_by n (held ++ (check false n p ∷ others)) ≡ true → ⊥
not_by n p [] others t = true≢false (sym (rw (eq-eqb n n refl) at t))
not_by n p (check holds m q ∷ held) others t = not_by n p held others ((and-eq-true_iff (not (eqb m n) || holds) (hold_by n (held ++ (check false n p ∷ others)))).0 t).1

-- of the checks of a record one refuses by 9, and asks for its number; IM and EF have none
nine_holds : (ctx : Context) (rec : List ℕ) (k : RecordKind) → (heads k ≡ false → number (field 4 10 rec) ≡ ctx.counts.dispositions) → hold_by 9 (checks k ctx rec) ≡ true
unfolding checks
nine_holds ctx rec =
    each-kind (λ (k : RecordKind). (heads k ≡ false → number (field 4 10 rec) ≡ ctx.counts.dispositions) → hold_by 9 (checks k ctx rec) ≡ true)
    (λ h. refl, (λ h. due (h refl), (λ h. due (h refl), (λ h. due (h refl), (λ h. due (h refl), (λ h. due (h refl), (λ h. due (h refl), (λ h. due (h refl), (λ h. due (h refl), (λ h. due (h refl), (λ h. refl, tt)))))))))))
  where
    due : number (field 4 10 rec) ≡ ctx.counts.dispositions → (eqb (number (field 4 10 rec)) ctx.counts.dispositions && true) ≡ true
    due e = rw (eq-eqb _ _ e)

row-not-nine : (k : RecordKind) (ctx : Context) (rec : List ℕ) → Supplied rec k ctx → (n p : ℕ) → FirstBroken (checks k ctx rec) n p → ¬ (n ≡ 9)
row-not-nine k ctx rec so n p (held, others, row, h) nine =
    not_by 9 p held others (subst (λ (cs : List Check). hold_by 9 cs ≡ true) (row ∙ ap (λ (m : ℕ). held ++ (check false m p ∷ others)) nine) (nine_holds ctx rec k so.numbered))

pub numbers-supplied : NumbersSupplied
numbers-supplied list room r p e =
    write-refused_by (λ (n : ℕ). ¬ (n ≡ 9)) (λ e. omega arith) (λ e. omega arith) row-not-nine (λ e. omega arith) (λ e. omega arith) (λ e. omega arith) (λ e. omega arith) ((write-refused list room (refusal 9 r p)).0 e) refl

-- and one refuses by 22, and asks for the kind found so far
other-kind_holds : (ctx : Context) (rec : List ℕ) (k : RecordKind) → (opens k ≡ true → is_of ctx.kind (field 29 33 rec) ≡ true) → hold_by 22 (checks k ctx rec) ≡ true
unfolding checks
other-kind_holds ctx rec = each-kind (λ (k : RecordKind). (opens k ≡ true → is_of ctx.kind (field 29 33 rec) ≡ true) → hold_by 22 (checks k ctx rec) ≡ true) (λ h. refl, (λ h. rw (h refl), (λ h. refl, (λ h. refl, (λ h. refl, (λ h. refl, (λ h. refl, (λ h. refl, (λ h. refl, (λ h. refl, (λ h. refl, tt)))))))))))

row-not-other-kind : (k : RecordKind) (ctx : Context) (rec : List ℕ) → Supplied rec k ctx → (n p : ℕ) → FirstBroken (checks k ctx rec) n p → ¬ (n ≡ 22)
row-not-other-kind k ctx rec so n p (held, others, row, h) other =
    not_by 22 p held others (subst (λ (cs : List Check). hold_by 22 cs ≡ true) (row ∙ ap (λ (m : ℕ). held ++ (check false m p ∷ others)) other) (other-kind_holds ctx rec k so.kindred))

pub kinds-supplied : KindsSupplied
kinds-supplied list room r p e =
    write-refused_by (λ (n : ℕ). ¬ (n ≡ 22)) (λ e. omega arith) (λ e. omega arith) row-not-other-kind (λ e. omega arith) (λ e. omega arith) (λ e. omega arith) (λ e. omega arith) ((write-refused list room (refusal 22 r p)).0 e) refl
