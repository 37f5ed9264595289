-- The dispositions of an accepted flow: the header stands before them and the trailer after, they are as many as is answered, and the
-- record that opens one has its amount. Assumes nothing.
use Prim.Native.Nat.{ℕ, suc, ◌+◌, ◌-◌, ◌*◌, ◌/◌, ◌%◌, ◌≤◌, ◌<◌}
use mathlib.Core.Bool.{Bool, true, false, cond, ◌&&◌, and-eq-true_iff, true≢false}
use mathlib.Core.List.{List, [], ◌∷◌, drop_last}
use mathlib.Core.Logic.{◌⊎◌, inl, inr}
use mathlib.Core.Path.{◌≡◌, refl, sym, ◌∙◌, ap, subst}
use native.Mathlib.Numerals.{add-one}
use native.Mathlib.Omega.{arith}
use lib.Dec.{leb}
use lib.ListN.{length, take, drop, get_or}
use borrow.Author.Tests.{leb-true, le-leb}
use Rattle.sequences.specs.All.{All}
use Rattle.sequences.specs.Groups.{lead, groups}
use Rattle.sequences.specs.Part.{part}
use Rattle.sequences.proofs.All.{all_get_d, all_map}
use Rattle.sequences.proofs.DropLast.{drop_last_length, drop_last_get_d}
use Rattle.sequences.proofs.Groups.{lead_next, lead_end, group_start, Group, group_at, start_next, start-within}
use Rattle.fields.specs.Amount.{IsAmount}
use Rattle.fields.specs.Digits.{number}
use Rattle.fields.proofs.Amounts.{amount_given}
use Rattle.records.specs.Amount.{amount_in, HasAmount}
use Rattle.records.specs.Context.{Header, header_of}
use Rattle.records.specs.RecordVerdict.{RecordVerdict, right}
use Rattle.records.specs.RecordVerdict.{refused as RecordVerdict-refused}
use Rattle.records.specs.Kinds.{has_type, is_opening, opens}
use Rattle.records.specs.declared.kind.RecordKind.{RecordKind}
use Rattle.records.specs.declared.kind.RecordKind.TheVariants.{Im, Ef}
use Rattle.records.proofs.Amounts.{right-amount}
use Rattle.records.proofs.ByKind.{opens-type}
use Rattle.flow.specs.Find.{dispositions_in, start_of, IsNumber, location_of, find, bytes_at, part_of, offset_at, offset_of, HasDisposition, opening_from}
use Rattle.flow.specs.Judge.{unless_fault, ended, walk_from, judge}
use Rattle.flow.specs.Records.{is_length, record_at, records_of, most_bytes}
use Rattle.flow.specs.Laws.{EachAsks, FindRefused, PartPlaced}
use Rattle.flow.specs.Order.{In, permitted, is_due}
use Rattle.flow.specs.Walking.{start, step, company_after, judge_record}
use Rattle.flow.specs.ExactTotals.{opening_count}
use Rattle.flow.specs.Verdict.{Verdict, accepted, refused, of_call, and_then}
use Rattle.flow.specs.Verdict.{Refusal}
use Rattle.flow.specs.declared.answer.Totals.{Totals}
use Rattle.flow.specs.declared.location.Location.{Location}
use Rattle.flow.specs.declared.walk.Walk.{Walk}
use Rattle.flow.proofs.Accepted.{accepted-not-refused, accepted-same, refused-same, ended_so, accepted_exact}
use Rattle.flow.proofs.Cut.{cut-count, cut_at}
use Rattle.flow.proofs.Exact.{last-kind, right_typed}
use Rattle.flow.proofs.Lengths.{length-said}

-- a record passed on the way to acceptance: it is right, and after it the rest is accepted
pub record Passed (header : Header) (w : Walk) (company : List ℕ) (i : ℕ) (rec : List ℕ) (recs : List (List ℕ)) (v : Verdict Totals) : Type 0 where
  pub kind : RecordKind
  pub cents : ℕ
  pub found : judge_record header w company (suc i) rec ≡ right kind cents
  pub rest : walk_from ended header (step w kind cents rec) (company_after company kind rec) (suc i) recs ≡ v

module _ (header : Header) (w : Walk) (company : List ℕ) (i : ℕ) {t : Totals} where
  pub passed : (rec : List ℕ) (recs : List (List ℕ)) → walk_from ended header w company i (rec ∷ recs) ≡ accepted t → Passed header w company i rec recs (accepted t)
  unfolding walk_from
  passed rec recs = by (judge_record header w company (suc i) rec) refl
    where
      by :
          (x : RecordVerdict) → judge_record header w company (suc i) rec ≡ x
          → unless_fault (suc i) x (λ k a. walk_from ended header (step w k a rec) (company_after company k rec) (suc i) recs) ≡ accepted t → Passed header w company i rec recs (accepted t)
      by (right k a) found e = record { kind = k; cents = a; found = found; rest = e }
      by (RecordVerdict-refused m p) found e = absurd (accepted-not-refused e)

  -- after the last record nothing is due
  pub none-due : walk_from ended header w company i [] ≡ accepted t → is_due (permitted w.place.due) ≡ false
  unfolding walk_from
  none-due e = (ended_so w i e).0

-- so the last record of an accepted flow is the trailer, which opens no disposition
without-trailer :
    (header : Header) (w : Walk) (company : List ℕ) (i : ℕ) (rec : List ℕ) (recs : List (List ℕ)) {t : Totals} → walk_from ended header w company i (rec ∷ recs) ≡ accepted t
    → opening_count (drop_last (rec ∷ recs)) ≡ opening_count (rec ∷ recs)
unfolding opening_count
without-trailer header w company i rec [] e =
    let p = passed header w company i rec [] e in
    let k = p.kind in
    let last : k ≡ Ef = last-kind w.place.further k (none-due header (step w k p.cents rec) (company_after company k rec) (suc i) p.rest) in
    let trailer : has_type Ef rec ≡ true = subst (λ (l : RecordKind). has_type l rec ≡ true) last (right_typed header w company (suc i) rec k p.cents p.found).0 in
    rw (← opens-type Ef rec trailer)
without-trailer header w company i rec (next ∷ recs) e =
    let p = passed header w company i rec (next ∷ recs) e in
    ap (λ (m : ℕ). cond (is_opening rec) 1 0 + m) (without-trailer header (step w p.kind p.cents rec) (company_after company p.kind rec) (suc i) next recs p.rest)

-- the records that open a disposition, each with its group
groups-counted : (recs : List (List ℕ)) → length (groups is_opening recs) ≡ opening_count recs
unfolding groups opening_count
groups-counted [] = refl
groups-counted (rec ∷ recs) = by (is_opening rec) (groups-counted recs)
  where
    by :
        (b : Bool) → length (groups is_opening recs) ≡ opening_count recs
        → length (cond b ((rec ∷ lead is_opening recs) ∷ groups is_opening recs) (groups is_opening recs)) ≡ cond b 1 0 + opening_count recs
    by true e = omega arith
    by false e = omega arith

-- where one kind is permitted, a right record is of it
pub only-kind : {k l : RecordKind} → In k (l ∷ []) → k ≡ l
only-kind (inl e) = e
only-kind (inr e) = elim e [ ]

-- the header stands before the first disposition, and no other record does
header-leads-all :
    (header : Header) (recs : List (List ℕ)) {t : Totals} → walk_from ended header start [] 0 recs ≡ accepted t → lead is_opening (drop_last recs) ≡ get_or recs 0 [] ∷ []
unfolding lead
header-leads-all header [] e = absurd (true≢false (none-due header start [] 0 e))
header-leads-all header (rec ∷ recs) {t} e = by recs (subst (λ (l : RecordKind). walk_from ended header (step start l p.cents rec) (company_after [] l rec) 1 recs ≡ accepted t) im p.rest)
  where
    p : Passed header start [] 0 rec recs (accepted t)
    p = passed header start [] 0 rec recs e

    im : p.kind ≡ Im
    im = only-kind (right_typed header start [] 1 rec p.kind p.cents p.found).2

    other : is_opening rec ≡ false
    other = sym (opens-type Im rec (subst (λ (l : RecordKind). has_type l rec ≡ true) im (right_typed header start [] 1 rec p.kind p.cents p.found).0))

    by : (recs : List (List ℕ)) → walk_from ended header (step start Im p.cents rec) (company_after [] Im rec) 1 recs ≡ accepted t → lead is_opening (drop_last (rec ∷ recs)) ≡ rec ∷ []
    by [] e = absurd (true≢false (none-due header (step start Im p.cents rec) (company_after [] Im rec) 1 e))
    by (next ∷ []) e = rw other
    by (next ∷ third ∷ recs) e =
        let w = step start Im p.cents rec in
        let q = passed header w (company_after [] Im rec) 1 next (third ∷ recs) e in
        let typed = right_typed header w (company_after [] Im rec) 2 next q.kind q.cents q.found in
        let first : is_opening next ≡ true = sym (opens-type q.kind next typed.0) ∙ ap opens (only-kind typed.2) in
        rw (other, first)

-- each record that was walked over and opens a disposition has an amount
abbrev OpensWithAmount : List ℕ → Type 0
OpensWithAmount rec = is_opening rec ≡ true → HasAmount rec

amounts_from :
    (header : Header) (w : Walk) (company : List ℕ) (i : ℕ) (recs : List (List ℕ)) {t : Totals} → walk_from ended header w company i recs ≡ accepted t
    → All OpensWithAmount recs
amounts_from header w company i [] e = tt
amounts_from header w company i (rec ∷ recs) e =
    let p = passed header w company i rec recs e in
    let typed = right_typed header w company (suc i) rec p.kind p.cents p.found in
    (λ opened. right-amount p.kind p.kind _ rec p.cents (opens-type p.kind rec typed.0 ∙ opened) typed.1, amounts_from header (step w p.kind p.cents rec) (company_after company p.kind rec) (suc i) recs p.rest)

-- every record but the last
abbrev pub until_trailer : List ℕ → List (List ℕ)
until_trailer f = drop_last (records_of f)

until_length : (f : List ℕ) → length (until_trailer f) ≡ length f / 120 - 1
until_length f = rw (drop_last_length, cut-count)

until_at : (f : List ℕ) (i : ℕ) → suc i < length f / 120 → get_or (until_trailer f) i [] ≡ record_at i f
until_at f i h = drop_last_get_d (records_of f) i [] (rw cut-count h) ∙ cut_at (length f / 120) i f (omega arith)

-- for a loop over i: a record at i that opens a disposition is the first from i on, else the first from i + 1 on is; and from the trailer on there is none
pub opening_next : (f : List ℕ) (i : ℕ) → suc i < length f / 120 → opening_from f i ≡ cond (is_opening (record_at i f)) i (opening_from f (suc i))
opening_next f i h =
    let far : i < length (until_trailer f) = rw until_length (omega arith) in
    rw (lead_next is_opening (until_trailer f) i [] far, until_at f i h) (by (is_opening (record_at i f)))
  where
    by :
        (b : Bool) → i + length (cond b [] (record_at i f ∷ lead is_opening (drop (suc i) (until_trailer f)))) ≡ cond b i (opening_from f (suc i))
    by true = omega arith
    by false = omega arith

pub opening_end : (f : List ℕ) (i : ℕ) → length f / 120 ≤ suc i → opening_from f i ≡ i
opening_end f i h =
    let past : length (until_trailer f) ≤ i = rw until_length (omega arith) in
    rw (lead_end is_opening (until_trailer f) i past) (omega arith)

-- an accepted flow has whole records, and they are accepted
pub accepted-records : (f : List ℕ) {t : Totals} → judge f ≡ accepted t → (is_length (length f) ≡ true) × (walk_from ended (header_of (take 120 f)) start [] 0 (records_of f) ≡ accepted t)
unfolding judge
accepted-records f {t} = by (is_length (length f))
  where
    by : (b : Bool) → cond b (walk_from ended (header_of (take 120 f)) start [] 0 (records_of f)) (refused (of_call 1)) ≡ accepted t → (b ≡ true) × (walk_from ended (header_of (take 120 f)) start [] 0 (records_of f) ≡ accepted t)
    by true e = (refl, e)
    by false e = absurd (accepted-not-refused e)

-- so each of an accepted flow
amounts_all : (f : List ℕ) {t : Totals} → judge f ≡ accepted t → All OpensWithAmount (records_of f)
amounts_all f e = amounts_from (header_of (take 120 f)) start [] 0 (records_of f) (accepted-records f e).1

-- and asks for it
pub each_asks : EachAsks
each_asks f t e = all_map asks (records_of f) (amounts_all f e)
  where
    asks : (rec : List ℕ) → OpensWithAmount rec → is_opening rec ≡ true → IsAmount (number (amount_in rec))
    asks rec has opened = amount_given (amount_in rec) _ (has opened)

module _ (f : List ℕ) {t : Totals} (e : judge f ≡ accepted t) where
  pub accepted-length : (120 ≤ length f) × (length f % 120 ≡ 0) × (length f ≤ most_bytes)
  accepted-length =
      let said = length-said (length f) (accepted-records f e).0 in
      (omega arith, said.1, said.2)

  -- the header stands before the first disposition
  pub header-leads : lead is_opening (until_trailer f) ≡ record_at 0 f ∷ []
  header-leads =
      let some = accepted-length.0 in
      header-leads-all (header_of (take 120 f)) (records_of f) (accepted-records f e).1 ∙ ap (λ (r : List ℕ). r ∷ []) (cut_at (length f / 120) 0 f (omega arith))

  -- as many dispositions stand in it as it is answered
  pub dispositions-counted : length (dispositions_in f) ≡ t.dispositions
  dispositions-counted = groups-counted (until_trailer f) ∙ all (records_of f) (accepted-records f e).1 ∙ sym (accepted_exact f t e).0
    where
      all : (recs : List (List ℕ)) → walk_from ended (header_of (take 120 f)) start [] 0 recs ≡ accepted t → opening_count (drop_last recs) ≡ opening_count recs
      all [] x = refl
      all (rec ∷ recs) x = without-trailer (header_of (take 120 f)) start [] 0 rec recs x

-- a disposition of f, with its start and its records
pub record Disposition (f : List ℕ) (at : ℕ) (records : List (List ℕ)) : Type 0 where
  -- it goes on to the next one or the trailer
  pub next : opening_from f (at + 1) ≡ at + length records
  -- the trailer stands after it
  pub within : 120 * (at + length records) + 120 ≤ length f
  -- it is opened by the record at its start, which has an amount
  pub opening : get_or records 0 [] ≡ record_at at f
  pub type : is_opening (record_at at f) ≡ true
  pub amount : HasAmount (record_at at f)

module _ (f : List ℕ) (k : ℕ) (s : HasDisposition f k) where
  counted : k - 1 < length (dispositions_in f)
  counted =
      let some = s.some in
      let within = s.within in
      omega (arith, dispositions-counted f s.read)

  starts : group_start is_opening (until_trailer f) (k - 1) ≡ start_of (dispositions_in f) k
  starts = rw (header-leads f s.read) (omega arith)

  -- the disposition after it starts where it ends
  pub starts_next : start_of (dispositions_in f) (k + 1) ≡ start_of (dispositions_in f) k + length (get_or (dispositions_in f) (k - 1) [])
  starts_next =
      let some = s.some in
      let one : k + 1 - 1 ≡ suc (k - 1) = omega arith in
      rw one (omega (arith, start_next is_opening (until_trailer f) (k - 1) counted))

  pub disposition_at : Disposition f (start_of (dispositions_in f) k) (get_or (dispositions_in f) (k - 1) [])
  disposition_at =
      let at = start_of (dispositions_in f) k in
      let records = get_or (dispositions_in f) (k - 1) [] in
      let group : Group is_opening (until_trailer f) [] (k - 1) at = subst (Group is_opening (until_trailer f) [] (k - 1)) starts (group_at is_opening (until_trailer f) [] (k - 1) counted) in
      let size : length records ≡ suc (length (lead is_opening (drop (suc at) (until_trailer f)))) = ap length group.all in
      let total = until_length f in
      let end : at + length records ≤ length (until_trailer f) = omega (arith, starts, start_next is_opening (until_trailer f) (k - 1) counted, start-within is_opening (until_trailer f) (suc (k - 1))) in
      let here = until_at f at (omega arith) in
      let type : is_opening (record_at at f) ≡ true = rw here at group.opens in
      let cut-here = cut_at (length f / 120) at f (omega arith) in
      record {
        next = rw add-one (omega arith);
        within = omega arith;
        opening = ap (λ (l : List (List ℕ)). get_or l 0 []) group.all ∙ here;
        type = type;
        amount = rw cut-here at (all_get_d OpensWithAmount (records_of f) at [] (rw cut-count (omega arith)) (amounts_all f s.read) (rw cut-here type));
      }

-- a number from 1 up to the count stands in the flow
pub has-disposition : (f : List ℕ) (k : ℕ) {t : Totals} → judge f ≡ accepted t → (leb 1 k && leb k t.dispositions) ≡ true → HasDisposition f k
has-disposition f k {t} e test =
    let both = (and-eq-true_iff (leb 1 k) (leb k t.dispositions)).0 test in
    record { totals = t; read = e; some = leb-true 1 k both.0; within = leb-true k t.dispositions both.1 }

-- where it stands, disposition k + 1 of an accepted flow
pub find_so : (f : List ℕ) (k : ℕ) {t : Totals} → judge f ≡ accepted t → k < t.dispositions → find f (suc k) ≡ accepted (location_of (dispositions_in f) (suc k))
unfolding find
find_so f k {t} e h = rw (e, le-leb 1 (suc k) (omega arith), le-leb (suc k) t.dispositions h)

-- a question is refused, or disposition k stands in the flow
data Asked (f : List ℕ) (k : ℕ) : Verdict Location → Type 0 where
  not_read : {x : Refusal} → judge f ≡ refused x → Asked f k (refused x)
  not_there : {t : Totals} → judge f ≡ accepted t → ¬ IsNumber k t.dispositions → Asked f k (refused (of_call 15))
  there : HasDisposition f k → Asked f k (accepted (location_of (dispositions_in f) k))

asked_so : (f : List ℕ) (k : ℕ) → Asked f k (find f k)
unfolding find
asked_so f k = by (judge f) refl
  where
    test : {t : Totals} → judge f ≡ accepted t → (b : Bool) → (leb 1 k && leb k t.dispositions) ≡ b → Asked f k (cond b (accepted (location_of (dispositions_in f) k)) (refused (of_call 15)))
    test e true holds = there (has-disposition f k e holds)
    test {t} e false fails = not_there e (λ h. true≢false (sym ((and-eq-true_iff (leb 1 k) (leb k t.dispositions)).1 (le-leb 1 k h.0, le-leb k t.dispositions h.1)) ∙ fails))

    by : (v : Verdict Totals) → judge f ≡ v → Asked f k (and_then v (λ (t : Totals). cond (leb 1 k && leb k t.dispositions) (accepted (location_of (dispositions_in f) k)) (refused (of_call 15))))
    by (accepted t) e = test e (leb 1 k && leb k t.dispositions) refl
    by (refused x) e = not_read e

pub find-refused : FindRefused
find-refused f k x = (λ e. said (find f k) e (asked_so f k), λ h. tested h (find f k) refl (asked_so f k))
  where
    NoSuch : Type 0
    NoSuch = (t : Totals) × (judge f ≡ accepted t) × ¬ IsNumber k t.dispositions × (x ≡ of_call 15)

    said : (l : Verdict Location) → l ≡ refused x → Asked f k l → (judge f ≡ refused x) ⊎ NoSuch
    said l e (not_read y) = inl (y ∙ ap refused (refused-same e))
    said l e (not_there {t = t} y none) = inr (t, y, none, sym (refused-same e))
    said l e (there s) = absurd (accepted-not-refused (sym e))

    tested : (judge f ≡ refused x) ⊎ NoSuch → (l : Verdict Location) → find f k ≡ l → Asked f k l → l ≡ refused x
    tested (inl y) l e (not_read z) = ap refused (refused-same (sym z ∙ y))
    tested (inl y) l e (not_there z none) = absurd (accepted-not-refused (sym y ∙ z))
    tested (inl y) l e (there s) = absurd (accepted-not-refused (sym y ∙ s.read))
    tested (inr h) l e (not_read z) = absurd (accepted-not-refused (sym z ∙ h.1))
    tested (inr h) l e (not_there z none) = ap refused (sym h.3)
    tested (inr h) l e (there s) = absurd (h.2 (s.some, subst (λ (t : Totals). k ≤ t.dispositions) (accepted-same (sym s.read ∙ h.1)) s.within))

-- what was found stands where it was found
pub found-has : (f : List ℕ) (k : ℕ) {s : Location} → find f k ≡ accepted s → HasDisposition f k × (s ≡ location_of (dispositions_in f) k)
found-has f k {s} e = go (find f k) e (asked_so f k)
  where
    go : (l : Verdict Location) → l ≡ accepted s → Asked f k l → HasDisposition f k × (s ≡ location_of (dispositions_in f) k)
    go l e (not_read y) = absurd (accepted-not-refused e)
    go l e (not_there y none) = absurd (accepted-not-refused e)
    go l e (there s) = (s, accepted-same (sym e))

-- and within the flow, before the trailer
pub found_within : (f : List ℕ) (k : ℕ) {s : Location} → find f k ≡ accepted s → (1 ≤ s.first) × (120 * (s.first - 1 + s.records) + 120 ≤ length f)
found_within f k e =
    let found = found-has f k e in
    let within = (disposition_at f k found.0).within in
    rw found.1 (omega arith, omega arith)

pub part_placed : PartPlaced
part_placed f k = (found, λ x e. ap offset_at e)
  where
    found :
        (s : Location) → find f k ≡ accepted s
        → (offset_of f k ≡ 120 * (s.first - 1)) × (part_of f k ≡ part (offset_of f k) (120 * s.records) f) × (offset_of f k + 120 * s.records + 120 ≤ length f)
    found s e =
        let within = found_within f k e in
        let start : offset_of f k ≡ 120 * (s.first - 1) = ap offset_at e in
        (start, ap (λ (l : Verdict Location). bytes_at l f) e ∙ ap (λ (n : ℕ). part n (120 * s.records) f) (sym start), omega arith)
