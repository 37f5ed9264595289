-- Writing is refused exactly where document 01 says so, and by that number, and else accepted with the list's own sums. Assumes nothing.
use Prim.Native.Nat.{ℕ, suc, ◌+◌, ◌*◌, ◌≤◌}
use mathlib.Core.Bool.{Bool, true, false, cond, true≢false}
use mathlib.Core.List.{List, ◌∷◌}
use mathlib.Core.Logic.{◌↔◌, ◌⊎◌, inl, inr}
use mathlib.Core.Path.{◌≡◌, refl, sym, ◌∙◌, ap, subst}
use native.Mathlib.Omega.{arith}
use lib.Dec.{leb}
use lib.ListN.{length, length-append}
use borrow.Author.Tests.{leb-true, leb-false, le-leb, lt-leb}
use Rattle.sequences.specs.All.{All}
use Rattle.records.specs.Limits.{most_cents, most_records}
use Rattle.records.specs.declared.kind.RecordKind.TheVariants.{Ef}
use Rattle.flow.specs.Judge.{walk_totals, ended, judge}
use Rattle.flow.specs.Order.{permitted, is_due, may_close}
use Rattle.flow.specs.Records.{RightLength}
use Rattle.flow.specs.Walking.{start}
use Rattle.flow.specs.Verdict.{Verdict, accepted, refused, refusal, of_call}
use Rattle.flow.specs.Verdict.{Refusal}
use Rattle.flow.specs.declared.answer.Totals.{Totals}
use Rattle.flow.proofs.Accepted.{accepted-not-refused, refused-same}
use Rattle.flow.proofs.Cut.{flatten-length, joined_records}
use Rattle.grammar.specs.Fault.{MayFollow, EachRight}
use Rattle.grammar.specs.Grammar.{records_in}
use Rattle.grammar.proofs.ContextAfter.{may_follow, follows_may, walked_of, each_of}
use Rattle.grammar.proofs.FirstFault.{judge_from, judged, ends_so, stops_so}
use Rattle.grammar.proofs.Walked.{state_after}
use Rattle.list.specs.Encode.{no_header, records_for}
use Rattle.list.specs.Items.{Item, Proper, Parsed, items, faulty, parse}
use Rattle.list.specs.Laws.{Fitting, WriteFault, no_item, too_many, no_room, in_record, no_trailer, too_much, WriteRefused, WriteAccepts, WriteAccepted}
use Rattle.list.specs.Write.{closed, judge_items, judge_parsed, judge_list}
use Rattle.list.proofs.AllRecords.{encoded-whole, encoded-count}
use Rattle.list.proofs.Judging.{front, RightItems, FaultyItems, view_items, typed_count, right_judged, faulty_judged, right-sums, close_said, close_tested}
use Rattle.list.proofs.Written.{accepted_list, accepted-items, kind-told}
use Rattle.list.proofs.ListItems.{items_exact, faulty_exact}

-- a refusal that says the same is for the same fault
renamed : {list : List ℕ} {room : ℕ} {x y : Refusal} → ◌≡◌ {A = Verdict Totals} (refused y) (refused x) → WriteFault list room y → WriteFault list room x
renamed {list} {room} e fault = subst (WriteFault list room) (refused-same e) fault

-- the records other than EF, judged by the reader itself
module _ (is : List Item) (proper : All Proper is) (few : suc (length is) ≤ most_records) where
  front_length : length (front is) ≡ 120 * length is
  front_length = flatten-length (records_for is) (encoded-whole 0 no_header is proper) ∙ ap (λ (m : ℕ). 120 * m) (encoded-count 0 no_header is)

  front_judged : 1 ≤ length is → judge (front is) ≡ judge_from (front is) (records_for is)
  front_judged some =
      let size = front_length in
      let sized : RightLength (length (front is)) = (omega arith, omega arith, omega arith) in
      judged (front is) sized ∙ ap (judge_from (front is)) (joined_records (records_for is) (encoded-whole 0 no_header is proper))

  fault_within : (f : FaultyItems is) → suc (length (records_in f.typed)) ≤ length is
  fault_within f =
      let all : length (records_in f.typed) + suc (length f.rest) ≡ length is = sym (length-append (records_in f.typed) (f.rec ∷ f.rest)) ∙ ap (λ (l : List (List ℕ)). length l) (sym f.same) ∙ encoded-count 0 no_header is in
      omega arith

  fault_read : (f : FaultyItems is) → judge (front is) ≡ refused (refusal f.number (suc (length (records_in f.typed))) f.position)
  fault_read f =
      let within = fault_within f in
      front_judged (omega arith) ∙ ap (judge_from (front is)) f.same ∙ stops_so ended (front is) f.typed f.walked f.rec f.rest f.number f.position f.whole f.fault

  -- where all are right the reader finds no fault in them
  right_read : (r : RightItems is) {x : Refusal} → judge (front is) ≡ refused x → 1 ≤ x.«record» → x.«record» ≤ length is → ⊥
  right_read r {x} e some within =
      let all = typed_count is r.typed r.same in
      by (is_due (permitted (state_after start r.typed).place.due)) all (sym (front_judged (omega arith) ∙ ap (judge_from (front is)) (sym r.same) ∙ ends_so ended (front is) r.typed r.walked) ∙ e)
    where
      by : (b : Bool) → length r.typed ≡ length is → cond b (refused (refusal 4 (suc (length r.typed)) 0)) (accepted (walk_totals (state_after start r.typed) (length r.typed))) ≡ refused x → ⊥
      by true all e = omega (arith, ap (λ (y : Refusal). y.«record») (refused-same e))
      by false all e = accepted-not-refused (sym e)

-- whether EF may follow right records, as the walk tests it and as it is said
abbrev may : {is : List Item} → RightItems is → Bool
may q = may_close (permitted (state_after start q.typed).place.due)

trailer-follows : (is : List Item) (q : RightItems is) → (may q ≡ true) ↔ MayFollow (records_for is) Ef
trailer-follows is q =
    let due = permitted (state_after start q.typed).place.due in (
      λ t. subst (λ (recs : List (List ℕ)). MayFollow recs Ef) q.same (may_follow (front is) q.typed q.walked Ef (close_said due t)),
      λ follows. close_tested due (follows_may (front is) q.typed q.walked Ef (subst (λ (recs : List (List ℕ)). MayFollow recs Ef) (sym q.same) follows)),
    )

-- from the answer to document 01's sentence
module _ (list : List ℕ) (room : ℕ) (x : Refusal) where
  at_end : (is : List Item) → Fitting list room is → (proper : All Proper is) (q : RightItems is) → closed (state_after start q.typed) (length is) ≡ refused x → WriteFault list room x
  at_end is fits proper q = by (may q) (leb (state_after start q.typed).cents most_cents) refl refl
    where
      each : EachRight (front is) (records_for is)
      each = subst (EachRight (front is)) q.same (each_of (front is) q.typed q.walked)

      by :
          (a b : Bool) → may q ≡ a → leb (state_after start q.typed).cents most_cents ≡ b
          → cond a (cond b (accepted (walk_totals (state_after start q.typed) (suc (length is)))) (refused (of_call 17))) (refused (refusal 3 (suc (length is)) 2)) ≡ refused x
          → WriteFault list room x
      by true true e f y = absurd (accepted-not-refused (sym y))
      by true false e f y =
          renamed y (too_much is fits each ((trailer-follows is q).0 e) (omega (arith, leb-false (state_after start q.typed).cents most_cents f, (right-sums is proper q).1)))
      by false b e f y = renamed y (no_trailer is fits each (λ follows. true≢false (sym ((trailer-follows is q).1 follows) ∙ e)))

  at_records : (is : List Item) → Fitting list room is → judge_items is ≡ refused x → WriteFault list room x
  at_records is fits e = let proper = ((items_exact list is).0 fits.said).1 in by proper (view_items is proper)
    where
      by : All Proper is → RightItems is ⊎ FaultyItems is → WriteFault list room x
      by proper (inl q) = at_end is fits proper q (sym (right_judged is proper q) ∙ e)
      by proper (inr f) =
          renamed (sym (faulty_judged is proper f) ∙ e)
          (in_record is (refusal f.number (suc (length (records_in f.typed))) f.position) fits (fault_read is proper fits.few f) (omega arith) (fault_within is proper fits.few f))

  at_sizes : (is : List Item) → parse list ≡ items is → judge_parsed (items is) room ≡ refused x → WriteFault list room x
  at_sizes is said = by (leb (suc (length is)) most_records) (leb (120 * suc (length is)) room) refl refl
    where
      by : (a b : Bool) → leb (suc (length is)) most_records ≡ a → leb (120 * suc (length is)) room ≡ b → cond a (cond b (judge_items is) (refused (of_call 21))) (refused (of_call 1)) ≡ refused x → WriteFault list room x
      by true true e f y = at_records is (record { said = said; few = leb-true (suc (length is)) most_records e; roomy = leb-true (120 * suc (length is)) room f }) y
      by true false e f y = renamed y (no_room is said (leb-true (suc (length is)) most_records e) (leb-false (120 * suc (length is)) room f))
      by false b e f y = renamed y (too_many is said (leb-false (suc (length is)) most_records e))

  refused_so : judge_list list room ≡ refused x → WriteFault list room x
  unfolding judge_list
  refused_so = by (parse list) refl
    where
      by : (q : Parsed) → parse list ≡ q → judge_parsed q room ≡ refused x → WriteFault list room x
      by (items is) said y = at_sizes is said y
      by (faulty m) said y = renamed y (no_item m ((faulty_exact list m).0 said))

-- and the other way round
pub fitting_judged : (list : List ℕ) (room : ℕ) (is : List Item) → Fitting list room is → judge_list list room ≡ judge_items is
unfolding judge_list
fitting_judged list room is fits = rw (fits.said, le-leb (suc (length is)) most_records fits.few, le-leb (120 * suc (length is)) room fits.roomy)

-- all the records are right
right_of : (is : List Item) → All Proper is → EachRight (front is) (records_for is) → RightItems is
right_of is proper each =
    let walked = walked_of (front is) (records_for is) (encoded-whole 0 no_header is proper) each in
    record { typed = walked.0; same = walked.1; walked = walked.2 }

fault_refuses : (list : List ℕ) (room : ℕ) (x : Refusal) → WriteFault list room x → judge_list list room ≡ refused x
unfolding judge_list
fault_refuses list room x (no_item m f) = rw ((faulty_exact list m).1 f)
fault_refuses list room x (too_many is said many) =
    let over : leb (suc (length is)) most_records ≡ false = lt-leb (suc (length is)) most_records many in
    rw (said, over)
fault_refuses list room x (no_room is said few short) =
    let over : leb (120 * suc (length is)) room ≡ false = lt-leb (120 * suc (length is)) room short in
    rw (said, le-leb (suc (length is)) most_records few, over)
fault_refuses list room x (in_record is y fits e some within) =
    let proper = ((items_exact list is).0 fits.said).1 in
    fitting_judged list room is fits ∙ by proper (view_items is proper)
  where
    by : All Proper is → RightItems is ⊎ FaultyItems is → judge_items is ≡ refused y
    by proper (inl right) = absurd (right_read is proper fits.few right e some within)
    by proper (inr f) = faulty_judged is proper f ∙ sym (fault_read is proper fits.few f) ∙ e
fault_refuses list room x (no_trailer is fits each none) =
    let proper = ((items_exact list is).0 fits.said).1 in
    let q = right_of is proper each in
    let shut : may q ≡ false = fails (may q) (λ t. none ((trailer-follows is q).0 t)) in
    fitting_judged list room is fits ∙ right_judged is proper q ∙ rw shut
  where
    fails : (b : Bool) → ¬ (b ≡ true) → b ≡ false
    fails true h = absurd (h refl)
    fails false h = refl
fault_refuses list room x (too_much is fits each follows much) =
    let proper = ((items_exact list is).0 fits.said).1 in
    let q = right_of is proper each in
    let due : may q ≡ true = (trailer-follows is q).1 follows in
    let over : leb (state_after start q.typed).cents most_cents ≡ false = lt-leb (state_after start q.typed).cents most_cents (omega (arith, (right-sums is proper q).1)) in
    fitting_judged list room is fits ∙ right_judged is proper q ∙ rw (due, over)

pub write-refused : WriteRefused
write-refused list room x = (refused_so list room x, fault_refuses list room x)

pub write-accepted : WriteAccepted
write-accepted list room t = (accepted_so, so_accepted)
  where
    accepted_so : judge_list list room ≡ accepted t → WriteAccepts list room t
    accepted_so e =
        let a = accepted_list list room t e in
        let is = a.these in
        let so = accepted-items is ((items_exact list is).0 a.fits.said).1 t a.judged_so in
        let r = so.right in
        record {
          these = is;
          fits = a.fits;
          right = subst (EachRight (front is)) r.same (each_of (front is) r.typed r.walked);
          follows = (trailer-follows is r).0 so.may;
          small = so.small;
          totals = so.told;
        }

    so_accepted : WriteAccepts list room t → judge_list list room ≡ accepted t
    so_accepted a =
        let is = a.these in
        let proper = ((items_exact list is).0 a.fits.said).1 in
        let q = right_of is proper a.right in
        let sums = right-sums is proper q in
        let due : may q ≡ true = (trailer-follows is q).1 a.follows in
        let small : leb (state_after start q.typed).cents most_cents ≡ true = le-leb (state_after start q.typed).cents most_cents (omega (arith, sums.1, a.small)) in
        fitting_judged list room is a.fits ∙ right_judged is proper q ∙ rw (due, small) (ap accepted ((λ i. record { kind = kind-told is proper q due i; dispositions = sums.0 i; cents = sums.1 i; records = suc (length is) }) ∙ a.totals))
