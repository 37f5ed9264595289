-- The table of checks as tests and as statements, row by row: the checks of a record hold exactly where what the table says is true of it.
-- Assumes nothing.
use Prim.Native.Nat.{ℕ, suc, ◌+◌, ◌^◌, ◌≤◌, ◌<◌}
use mathlib.Core.Bool.{Bool, true, false, not, ◌&&◌, ◌||◌, and-eq-true_iff, false≢true}
use mathlib.Core.List.Memᴰ
use mathlib.Core.List.{List, [], ◌∷◌, ◌++◌, Memᴰ}
use mathlib.Core.Logic.Iff
use mathlib.Core.Logic.{◌↔◌, ◌⊎◌, inl, inr, ⊎_elim}
use mathlib.Core.Path.{◌≡◌, refl, sym, ◌∙◌, ap, subst}
use native.Mathlib.Omega.{arith}
use lib.Dec.{leb, eqb}
use lib.ListN.{length}
use borrow.Author.Tests.{leb-true, le-leb, eqb-true, eq-eqb, not-true}
use Rattle.sequences.specs.All.{All}
use Rattle.sequences.specs.Every.{every}
use Rattle.sequences.specs.Text.{text}
use Rattle.sequences.proofs.Every.{all-every}
use Rattle.fields.specs.Bytes.{is_blank_byte, is_blank}
use Rattle.fields.specs.Calendar.{Gregorian}
use Rattle.fields.specs.Date.{day_of}
use Rattle.fields.specs.Digits.{is_digit, is_digits, number, digits}
use Rattle.fields.proofs.Amounts.{above_zero}
use Rattle.fields.proofs.Bytes.{equal_exact}
use Rattle.fields.proofs.Decimal.{number_below, written-digits, written_read_fits, read-written}
use Rattle.fields.proofs.Gregorian.{day-said, day_tested}
use Rattle.records.specs.Amount.{amount_in}
use Rattle.records.specs.Bytes.{is_printable, bad_from, bad_byte}
use Rattle.records.specs.Checks.{is_present, is_date, is_listed, number_checks, disposition_checks, coordinates_checks, checks}
use Rattle.records.specs.Company.{company_in, agrees}
use Rattle.records.specs.Constants.{currency}
use Rattle.records.specs.Context.{Context}
use Rattle.records.specs.Field.{field, byte_at}
use Rattle.records.specs.FlowKinds.{total_at, or_requests}
use Rattle.records.specs.RecordVerdict.{Check, check, Hold}
use Rattle.records.specs.declared.flow_kind.FlowKind.{FlowKind}
use Rattle.records.specs.declared.flow_kind.FlowKind.TheVariants.{Requests, Recalls}
use Rattle.records.specs.declared.judged.Counts.{Counts}
use Rattle.records.specs.declared.kind.RecordKind.{RecordKind}
use Rattle.records.specs.declared.kind.RecordKind.TheVariants.{Im, R14, R16, R20, R30, R40, R50, R59, R51, R70, Ef}
use Rattle.records.proofs.Printable.{no_bad_byte}
use Rattle.flow.specs.declared.answer.Totals.{Totals}
use Rattle.grammar.specs.Rules.{Digits, Blank, Present, Says, Printable, HeaderRules, DispositionRules, CoordinatesRules, BesideNumber, MemberRules, TotalRules, TrailerRules}
use Rattle.grammar.proofs.KindsOfFlow.{SomeKind, some-kind}
use Rattle.std.specs.Prelude.{Option}

-- tests joined, and what they say
either : {A B : Type 0} {a b : Bool} → (a ≡ true) ↔ A → (b ≡ true) ↔ B → ((a || b) ≡ true) ↔ (A ⊎ B)
either {a = true} e f = (λ t. inl (e.0 refl), λ h. refl)
either {a = false} e f = (λ t. inr (f.0 t), λ h. ⊎_elim (λ x. absurd (false≢true (e.1 x))) (λ y. f.1 y) h)

fails : {A : Type 0} {a : Bool} → (a ≡ true) ↔ A → (not a ≡ true) ↔ (¬ A)
fails {a = true} e = (λ t. absurd (false≢true t), λ n. absurd (n (e.0 refl)))
fails {a = false} e = (λ t x. false≢true (e.1 x), λ n. refl)

within : (low high b : ℕ) → ((leb low b && leb b high) ≡ true) ↔ ((low ≤ b) × (b ≤ high))
within low high b =
    let both = and-eq-true_iff (leb low b) (leb b high) in
    (λ t. (leb-true low b (both.0 t).0, leb-true b high (both.0 t).1), λ h. both.1 (le-leb low b h.0, le-leb b high h.1))

-- a number
pub number_exact : (a b : ℕ) → (eqb a b ≡ true) ↔ (a ≡ b)
number_exact a b = (eqb-true a b, eq-eqb a b)

-- bytes
pub digits_exact : (bs : List ℕ) → (is_digits bs ≡ true) ↔ Digits bs
digits_exact bs = all-every is_digit (λ b. (48 ≤ b) × (b ≤ 57)) (within 48 57) bs

pub blanks_exact : (bs : List ℕ) → (is_blank bs ≡ true) ↔ Blank bs
blanks_exact bs = all-every is_blank_byte (λ b. b ≡ 32) (λ b. number_exact b 32) bs

pub present_exact : (bs : List ℕ) → (is_present bs ≡ true) ↔ Present bs
present_exact bs = fails (blanks_exact bs)

-- six digits that name a day
day_exact : (bs : List ℕ) → (is_date bs ≡ true) ↔ Gregorian (day_of bs)
day_exact bs = (day-said (day_of bs), day_tested (day_of bs))

-- one of the listed bytes
pub listed_exact : (b : ℕ) (xs : List ℕ) → (is_listed b xs ≡ true) ↔ Memᴰ b xs
listed_exact b [] = (λ t. absurd (false≢true t), λ h. absurd (Memᴰ.not-nil h))
listed_exact b (x ∷ xs) =
    let here = either (number_exact b x) (listed_exact b xs) in
    (λ t. ⊎_elim (λ e. Memᴰ.head e) (λ m. Memᴰ.tail m) (here.0 t), λ h. here.1 (Memᴰ.cases_cons h))

-- bytes of 32 to 126
printable-byte : (b : ℕ) → (is_printable b ≡ true) ↔ Printable b
printable-byte b = within 32 126 b

all-printable : (bs : List ℕ) → (every is_printable bs ≡ true) ↔ All Printable bs
all-printable bs = all-every is_printable Printable printable-byte bs

-- the first byte of rec outside them stands at p, where the first of rec stands at q + 1
abbrev BadAt : ℕ → List ℕ → ℕ → Type 0
BadAt q rec p = (bs : List ℕ) × (b : ℕ) × (cs : List ℕ) × (rec ≡ bs ++ (b ∷ cs)) × All Printable bs × (¬ Printable b) × (p ≡ suc (q + length bs))

-- every byte is one of them, or there is a first that is not
bad_found : (q : ℕ) (rec : List ℕ) → All Printable rec ⊎ BadAt q rec (bad_from (suc q) rec)
unfolding bad_from
bad_found q [] = inl tt
bad_found q (b ∷ rec) = go (is_printable b) refl (bad_found (suc q) rec)
  where
    go : (t : Bool) → is_printable b ≡ t → All Printable rec ⊎ BadAt (suc q) rec (bad_from (suc (suc q)) rec) → All Printable (b ∷ rec) ⊎ BadAt q (b ∷ rec) (bad_from (suc q) (b ∷ rec))
    go true e (inl h) = inl ((printable-byte b).0 e, h)
    go true e (inr h) = inr (b ∷ h.0, h.1, h.2, ap (λ (l : List ℕ). b ∷ l) h.3, ((printable-byte b).0 e, h.4), h.5, rw e (h.6 ∙ omega arith))
    go false e r = inr ([], b, rec, refl, tt, (fails (printable-byte b)).0 (rw e), rw e (omega arith))

bad_there : (q : ℕ) (bs : List ℕ) (b : ℕ) (cs : List ℕ) → All Printable bs → ¬ Printable b → bad_from (suc q) (bs ++ (b ∷ cs)) ≡ suc (q + length bs)
unfolding bad_from
bad_there q [] b cs h n = rw (not-true (is_printable b) ((fails (printable-byte b)).1 n)) (omega arith)
bad_there q (x ∷ bs) b cs h n = rw ((printable-byte x).1 h.0) (bad_there (suc q) bs b cs h.1 n ∙ omega arith)

pub printable_exact : (rec : List ℕ) → (bad_byte rec ≡ 0) ↔ All Printable rec
printable_exact rec = (λ e. ⊎_elim (λ h. h) (λ h. absurd (omega (arith, e, h.6))) (bad_found 0 rec), λ h. no_bad_byte 1 rec ((all-printable rec).1 h))

pub bad_byte_exact :
    (rec : List ℕ) (p : ℕ) → ((bad_byte rec ≡ p) × (1 ≤ p))
    ↔ ((bs : List ℕ) × (b : ℕ) × (cs : List ℕ) × (rec ≡ bs ++ (b ∷ cs)) × All Printable bs × (¬ Printable b) × (p ≡ suc (length bs)))
bad_byte_exact rec p = (
  λ t. ⊎_elim (λ h. absurd (omega (arith, (printable_exact rec).1 h))) (λ h. (h.0, h.1, h.2, h.3, h.4, h.5, omega (arith, h.6))) (bad_found 0 rec),
  λ h. (rw h.3 (bad_there 0 h.0 h.1 h.2 h.4 h.5 ∙ omega arith), omega arith),
)

-- a row, check by check
infixr 20 ◌then◌
◌then◌ : {P Q A B : Type 0} → P ↔ A → Q ↔ B → (P × Q) ↔ (A × B)
e then f = Iff.and e f

none : Hold [] ↔ Unit {0}
none = Iff.rfl

alone : Hold [] ↔ (Unit {0} × Unit {0})
alone = (λ u. (tt, tt), λ u. tt)

-- 105-111 of row IM: all blank, or else each part by itself
unless : {B X Y Z : Type 0} → B ⊎ X → B ⊎ Y → B ⊎ Z → B ⊎ (X × Y × Z)
unless (inl b) y z = inl b
unless (inr x) (inl b) z = inl b
unless (inr x) (inr y) (inl b) = inl b
unless (inr x) (inr y) (inr z) = inr (x, y, z)

pub header_rules : (ctx : Context) (rec : List ℕ) → Hold (checks Im ctx rec) ↔ HeaderRules rec
unfolding checks
header_rules ctx rec =
    Iff.trans
    (present_exact (field 4 8 rec)
    then digits_exact (field 9 13 rec)
    then digits_exact (field 14 19 rec)
    then day_exact (field 14 19 rec)
    then present_exact (field 20 39 rec)
    then either (blanks_exact (field 105 111 rec)) (equal_exact (field 105 105 rec) (text "1"))
    then either (blanks_exact (field 105 111 rec)) (equal_exact (field 106 106 rec) (text "$"))
    then either (blanks_exact (field 105 111 rec)) (digits_exact (field 107 111 rec))
    then equal_exact (field 114 114 rec) currency
    then none) (
      λ (m, (r, (d, (t, (n, (x, (y, (z, (c, u))))))))). record { mittente = m; ricevente = r; created = (d, t); name = n; qualifier = unless x y z; currency_code = c },
      λ h. (h.mittente, (h.ricevente, (h.created.0, (h.created.1, (h.name, (part h.qualifier (λ a. a.0), (part h.qualifier (λ a. a.1), (part h.qualifier (λ a. a.2), (h.currency_code, tt))))))))),
    )
  where
    part : {B A X : Type 0} → B ⊎ A → (A → X) → B ⊎ X
    part h f = ⊎_elim (λ b. inl b) (λ a. inr (f a)) h

-- what row 14 says of it beside the records before it: its company code is compared with the first one, its kind with the one found so
-- far; no other record is
abbrev pub Agrees : RecordKind → List ℕ → Option FlowKind → List ℕ → Type 0
Agrees Im company q rec = Unit
Agrees R14 company q rec = (agrees company (company_in rec) ≡ true) × SomeKind q rec
Agrees R16 company q rec = Unit
Agrees R20 company q rec = Unit
Agrees R30 company q rec = Unit
Agrees R40 company q rec = Unit
Agrees R50 company q rec = Unit
Agrees R59 company q rec = Unit
Agrees R51 company q rec = Unit
Agrees R70 company q rec = Unit
Agrees Ef company q rec = Unit

disposition_rules : (abi company : List ℕ) (q : Option FlowKind) (rec : List ℕ) → Hold (disposition_checks abi company q rec) ↔ (DispositionRules abi rec × ((agrees company (company_in rec) ≡ true) × SomeKind q rec))
disposition_rules abi company q rec =
    Iff.trans
    (digits_exact (field 23 28 rec)
    then day_exact (field 23 28 rec)
    then Iff.rfl
    then Iff.rfl
    then digits_exact (amount_in rec)
    then above_zero (number (amount_in rec))
    then Iff.rfl
    then digits_exact (field 48 52 rec)
    then equal_exact (field 48 52 rec) abi
    then either (blanks_exact (field 53 57 rec)) (digits_exact (field 53 57 rec))
    then Iff.rfl
    then listed_exact (byte_at 97 rec) (text " 1234569")
    then equal_exact (field 120 120 rec) currency
    then none) (
      λ (d, (t, (k, (o, (a, (z, (s, (b, (e, (f, (g, (l, (v, u))))))))))))). (record { payable = (d, t); amount = (a, z); bank = (b, e); branch = f; code_type = l; currency_code = v }, (g, (some-kind q rec).0 (k, o, s))),
      λ (h, (g, kind)).
          let row = (some-kind q rec).1 kind in
          (h.payable.0, (h.payable.1, (row.0, (row.1, (h.amount.0, (h.amount.1, (row.2, (h.bank.0, (h.bank.1, (h.branch, (g, (h.code_type, (h.currency_code, tt))))))))))))),
    )

coordinates_rules : (abi rec : List ℕ) → Hold (coordinates_checks abi rec) ↔ (CoordinatesRules abi rec × Unit {0})
coordinates_rules abi rec =
    Iff.trans
    (either (equal_exact (field 11 12 rec) (text "IT")) (equal_exact (field 11 12 rec) (text "SM"))
    then digits_exact (field 13 14 rec)
    then present_exact (field 15 15 rec)
    then digits_exact (field 16 20 rec)
    then equal_exact (field 16 20 rec) abi
    then digits_exact (field 21 25 rec)
    then above_zero (number (field 21 25 rec))
    then present_exact (field 26 37 rec)
    then none) (
      λ (c, (k, (i, (b, (e, (d, (z, (a, u)))))))). (record { country = c; check-digits = k; cin = i; bank = (b, e); branch = (d, z); account = a }, u),
      λ (h, u). (h.country, (h.check-digits, (h.cin, (h.bank.0, (h.bank.1, (h.branch.0, (h.branch.1, (h.account, u)))))))),
    )

-- a record's number, and then its other checks
numbered :
    (k : RecordKind) (ctx : Context) (rec : List ℕ) (cs : List Check) → Hold cs ↔ (BesideNumber k ctx.header.abi rec × Agrees k ctx.company ctx.kind rec)
    → Hold (number_checks ctx.counts.dispositions rec ++ cs) ↔ (MemberRules k ctx.header.abi ctx.counts.dispositions rec × Agrees k ctx.company ctx.kind rec)
numbered k ctx rec cs e =
    Iff.trans
    (digits_exact (field 4 10 rec)
    then number_exact (number (field 4 10 rec)) ctx.counts.dispositions
    then e)
    (λ (d, (v, (o, g))). (record { number-said = (d, v); others = o }, g), λ (h, g). (h.number-said.0, (h.number-said.1, (h.others, g))))

pub member_rules :
    (k : RecordKind) (ctx : Context) (rec : List ℕ) → (k ≡ Im → ⊥) → (k ≡ Ef → ⊥)
    → Hold (checks k ctx rec) ↔ (MemberRules k ctx.header.abi ctx.counts.dispositions rec × Agrees k ctx.company ctx.kind rec)
unfolding checks
member_rules Im ctx rec f g = absurd (f refl)
member_rules R14 ctx rec f g =
    numbered R14 ctx rec (disposition_checks ctx.header.abi ctx.company ctx.kind rec) (disposition_rules ctx.header.abi ctx.company ctx.kind rec)
member_rules R16 ctx rec f g =
    numbered R16 ctx rec (coordinates_checks ctx.header.abi rec) (coordinates_rules ctx.header.abi rec)
member_rules R20 ctx rec f g =
    numbered R20 ctx rec (check (is_present (field 11 34 rec)) 7 11 ∷ []) (present_exact (field 11 34 rec) then none)
member_rules R30 ctx rec f g =
    numbered R30 ctx rec (check (is_present (field 11 40 rec)) 7 11 ∷ []) (present_exact (field 11 40 rec) then none)
member_rules R40 ctx rec f g = numbered R40 ctx rec [] alone
member_rules R50 ctx rec f g = numbered R50 ctx rec [] alone
member_rules R59 ctx rec f g =
    numbered R59 ctx rec (check (is_present (field 11 65 rec)) 7 11 ∷ []) (present_exact (field 11 65 rec) then none)
member_rules R51 ctx rec f g = numbered R51 ctx rec [] alone
member_rules R70 ctx rec f g =
    numbered R70 ctx rec (check (is_listed (byte_at 94 rec) (text " PB")) 6 94 ∷ []) (listed_exact (byte_at 94 rec) (text " PB") then none)
member_rules Ef ctx rec f g = absurd (g refl)

-- the totals that a trailer is asked to tell
abbrev pub counts_told : FlowKind → Counts → Totals
counts_told q c = record { kind = q; dispositions = c.dispositions; cents = c.cents; records = c.records }

-- the sum at the place of the kind, and zeros at the other
total_rules :
    (q : FlowKind) (cents : ℕ) (rec : List ℕ)
    → ((Digits (field 53 67 rec) × (number (field 53 67 rec) ≡ total_at q 53 cents)) × (Digits (field 68 82 rec) × (number (field 68 82 rec) ≡ total_at q 68 cents))) ↔ TotalRules q cents rec
total_rules Requests cents rec = Iff.rfl
total_rules Recalls cents rec = Iff.rfl

pub trailer_rules :
    (ctx : Context) (rec : List ℕ) → Hold (checks Ef ctx rec) ↔ TrailerRules ctx.header (counts_told (or_requests ctx.kind) ctx.counts) rec
unfolding checks
trailer_rules ctx rec =
    Iff.trans
    (equal_exact (field 4 8 rec) ctx.header.mittente
    then equal_exact (field 9 13 rec) ctx.header.abi
    then equal_exact (field 14 19 rec) ctx.header.date
    then equal_exact (field 20 39 rec) ctx.header.name
    then digits_exact (field 46 52 rec)
    then number_exact (number (field 46 52 rec)) ctx.counts.dispositions
    then digits_exact (field 53 67 rec)
    then number_exact (number (field 53 67 rec)) (total_at (or_requests ctx.kind) 53 ctx.counts.cents)
    then digits_exact (field 68 82 rec)
    then number_exact (number (field 68 82 rec)) (total_at (or_requests ctx.kind) 68 ctx.counts.cents)
    then digits_exact (field 83 89 rec)
    then number_exact (number (field 83 89 rec)) ctx.counts.records
    then equal_exact (field 114 114 rec) ctx.header.currency
    then none) (
      λ (m, (r, (d, (n, (a, (b, (e, (f, (g, (h, (j, (k, (c, u))))))))))))).
          record { mittente = m; ricevente = r; created = d; name = n; dispositions-said = (a, b); cents_said = (total_rules (or_requests ctx.kind) ctx.counts.cents rec).0 ((e, f), (g, h)); records-said = (j, k); currency_code = c },
      λ h.
          let total = (total_rules (or_requests ctx.kind) ctx.counts.cents rec).1 h.cents_said in
          (h.mittente, (h.ricevente, (h.created, (h.name, (h.dispositions-said.0, (h.dispositions-said.1, (total.0.0, (total.0.1, (total.1.0, (total.1.1, (h.records-said.0, (h.records-said.1, (h.currency_code, tt))))))))))))),
    )

-- the digits of a number that a field says are the field
pub says_digits : (w v : ℕ) (bs : List ℕ) → length bs ≡ w → Says v bs → bs ≡ digits w v
says_digits w v bs size said =
    sym (read-written bs ((digits_exact bs).1 said.0)) ∙ (λ i. digits (size i) (said.1 i))

-- a field of w digits says a number of w digits
pub said_below : (w v : ℕ) (bs : List ℕ) → length bs ≡ w → Says v bs → v < 10 ^ w
said_below w v bs size said =
    let small : number bs < 10 ^ length bs = number_below bs ((digits_exact bs).1 said.0) in
    subst (λ (m : ℕ). v < 10 ^ m) size (subst (λ (m : ℕ). m < 10 ^ length bs) said.1 small)

-- a number written in enough digits says it
pub says_written : (w v : ℕ) → v < 10 ^ w → Says v (digits w v)
says_written w v small = ((digits_exact (digits w v)).0 (written-digits w v), written_read_fits w v small)

pub digits-printable : (bs : List ℕ) → Digits bs → All Printable bs
digits-printable [] ds = tt
digits-printable (b ∷ bs) ds =
    let low = ds.0.0 in
    let high = ds.0.1 in
    ((omega arith, omega arith), digits-printable bs ds.1)
