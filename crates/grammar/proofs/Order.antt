-- The places of the walk and the grammar of record types say the same order. Assumes nothing.
use Prim.Native.Nat.{ℕ, zero, suc, ◌+◌, ◌≤◌}
use mathlib.Core.Bool.{Bool, true, false, cond}
use mathlib.Core.List.{List, [], ◌∷◌, ◌++◌, append_assoc}
use mathlib.Core.Logic.{◌⊎◌, inl, inr}
use mathlib.Core.Path.{◌≡◌, refl, sym, ◌∙◌, ap, subst}
use native.Mathlib.Omega.{arith}
use lib.Dec.{ltb}
use lib.ListN.{drop, replicate}
use borrow.Author.Tests.{ltb-true, ltb-false}
use Rattle.sequences.specs.All.{All}
use Rattle.records.specs.Kinds.{heads, closes}
use Rattle.records.specs.declared.kind.RecordKind.{RecordKind}
use Rattle.records.specs.declared.kind.RecordKind.TheVariants.{Im, R14, R16, R20, R30, R40, R50, R59, R51, R70, Ef}
use Rattle.records.proofs.EachKind.{each-kind}
use Rattle.flow.specs.Order.{In, permitted, place_due, place_after}
use Rattle.flow.specs.declared.order.Due.{Due}
use Rattle.flow.specs.declared.order.Due.TheVariants.{OnlyIm, OnlyR14, R16OrR20, OnlyR20, OnlyR30, OnlyR40, R50OrR59, R59OrR51, OnlyR51, OnlyR70, R14OrEf, Nothing}
use Rattle.flow.specs.declared.order.Place.{Place}
use Rattle.grammar.specs.Shape.{Coordinates, no_16, with_16, Reasons, one_50, some_59, Disposition, disposition, Dispositions, last, more, InOrder, in_order}

-- the place after records of the kinds, and that each of them was permitted at its place
abbrev pub place_through : Place → List RecordKind → Place
place_through p [] = p
place_through p (k ∷ ks) = place_through (place_after p.further k) ks

abbrev pub Allowed : Place → List RecordKind → Type 0
Allowed p [] = Unit
Allowed p (k ∷ ks) = In k (permitted p.due) × Allowed (place_after p.further k) ks

pub after-append : (p : Place) (ks ls : List RecordKind) → place_through p (ks ++ ls) ≡ place_through (place_through p ks) ls
after-append p [] ls = refl
after-append p (k ∷ ks) ls = after-append (place_after p.further k) ks ls

pub allowed_append : (p : Place) (ks ls : List RecordKind) → Allowed p ks → Allowed (place_through p ks) ls → Allowed p (ks ++ ls)
allowed_append p [] ls a b = b
allowed_append p (k ∷ ks) ls a b = (a.0, allowed_append (place_after p.further k) ks ls a.1 b)

pub allowed_after : (p : Place) (ks ls : List RecordKind) → Allowed p (ks ++ ls) → Allowed (place_through p ks) ls
allowed_after p [] ls a = a
allowed_after p (k ∷ ks) ls a = allowed_after (place_after p.further k) ks ls a.1

pub allowed_before : (p : Place) (ks ls : List RecordKind) → Allowed p (ks ++ ls) → Allowed p ks
allowed_before p [] ls a = tt
allowed_before p (k ∷ ks) ls a = (a.0, allowed_before (place_after p.further k) ks ls a.1)

-- from the walk to the grammar: what is left after each place, up to the end
abbrev OneOrMore : List RecordKind → Type 0
OneOrMore ks = (ds : List RecordKind) × Dispositions ds × (ks ≡ ds ++ (Ef ∷ []))

abbrev AnyNumber : List RecordKind → Type 0
AnyNumber ks = (ks ≡ Ef ∷ []) ⊎ OneOrMore ks

-- xs, then the rest of a disposition from its reasons on, and what follows it
abbrev FromReasons : List RecordKind → List RecordKind → Type 0
FromReasons xs ks = (rs ts : List RecordKind) × Reasons rs × AnyNumber ts × (ks ≡ xs ++ (rs ++ (R51 ∷ R70 ∷ ts)))

abbrev FromEnd : List RecordKind → List RecordKind → Type 0
FromEnd xs ks = (ts : List RecordKind) × AnyNumber ts × (ks ≡ xs ++ ts)

abbrev MayRemain : Due → ℕ → List RecordKind → Type 0
MayRemain OnlyIm m ks = InOrder ks
MayRemain OnlyR14 m ks = OneOrMore ks
MayRemain R16OrR20 m ks = (cs ls : List RecordKind) × Coordinates cs × FromReasons (R20 ∷ R30 ∷ R40 ∷ []) ls × (ks ≡ cs ++ ls)
MayRemain OnlyR20 m ks = FromReasons (R20 ∷ R30 ∷ R40 ∷ []) ks
MayRemain OnlyR30 m ks = FromReasons (R30 ∷ R40 ∷ []) ks
MayRemain OnlyR40 m ks = FromReasons (R40 ∷ []) ks
MayRemain R50OrR59 m ks = FromReasons [] ks
MayRemain R59OrR51 m ks = m ≤ 4 → (j : ℕ) × (ts : List RecordKind) × (j + m ≤ 5) × AnyNumber ts × (ks ≡ replicate j R59 ++ (R51 ∷ R70 ∷ ts))
MayRemain OnlyR51 m ks = FromEnd (R51 ∷ R70 ∷ []) ks
MayRemain OnlyR70 m ks = FromEnd (R70 ∷ []) ks
MayRemain R14OrEf m ks = AnyNumber ks
MayRemain Nothing m ks = ks ≡ []

cons : (k : RecordKind) {ks ls : List RecordKind} → ks ≡ ls → k ∷ ks ≡ k ∷ ls
cons k e = ap (λ (xs : List RecordKind). k ∷ xs) e

from_reasons : (k : RecordKind) (xs : List RecordKind) {ks : List RecordKind} → FromReasons xs ks → FromReasons (k ∷ xs) (k ∷ ks)
from_reasons k xs l = (l.0, l.1, l.2, l.3, cons k l.4)

-- a whole disposition in front of what is left
one_more : {ks : List RecordKind} → MayRemain R16OrR20 0 ks → OneOrMore (R14 ∷ ks)
one_more {ks} l = go l.3.3
  where
    cs : List RecordKind
    cs = l.0

    rs : List RecordKind
    rs = l.3.0

    ts : List RecordKind
    ts = l.3.1

    ds : List RecordKind
    ds = R14 ∷ (cs ++ (R20 ∷ R30 ∷ R40 ∷ (rs ++ (R51 ∷ R70 ∷ []))))

    whole : R14 ∷ ks ≡ ds ++ ts
    whole = cons R14 (l.4 ∙ ap (λ (xs : List RecordKind). cs ++ xs) l.3.4 ∙ simp append_assoc)

    go : AnyNumber ts → OneOrMore (R14 ∷ ks)
    go (inl e) = (ds, last (disposition l.2 l.3.2), whole ∙ ap (λ (xs : List RecordKind). ds ++ xs) e)
    go (inr o) = (ds ++ o.0, more (disposition l.2 l.3.2) o.1, whole ∙ ap (λ (xs : List RecordKind). ds ++ xs) o.2 ∙ sym (append_assoc ds o.0 (Ef ∷ [])))

-- a 59 in front of what is left after it: five at the most
further :
    (m : ℕ) (ks : List RecordKind) (b : Bool) → ltb m 4 ≡ b → (let p : Place = cond b (record { due = R59OrR51; further = suc m }) (place_due OnlyR51) in MayRemain p.due p.further ks)
    → (j : ℕ) × (ts : List RecordKind) × (suc j ≤ 5) × (m ≤ 4 → suc j + m ≤ 5) × AnyNumber ts × (R59 ∷ ks ≡ replicate (suc j) R59 ++ (R51 ∷ R70 ∷ ts))
further m ks true e l =
    let less = ltb-true m 4 e in
    let o = l less in
    (o.0, o.1, omega arith, λ few. omega arith, o.3, cons R59 o.4)
further m ks false e l = (0, l.0, omega arith, λ few. omega arith, l.1, cons R59 l.2)

-- what is left after a permitted record, with the record in front
record_in_front : (d : Due) (m : ℕ) (k : RecordKind) (ks : List RecordKind) → In k (permitted d) → MayRemain (place_after m k).due (place_after m k).further ks → MayRemain d m (k ∷ ks)
record_in_front d m k ks i = go d i
  where
    Before : RecordKind → Type 0
    Before l = MayRemain (place_after m l).due (place_after m l).further ks

    is : (l : RecordKind) (d : Due) → k ≡ l → (Before l → MayRemain d m (l ∷ ks)) → Before k → MayRemain d m (k ∷ ks)
    is l d e h = subst (λ (j : RecordKind). Before j → MayRemain d m (j ∷ ks)) (sym e) h

    go : (d : Due) → In k (permitted d) → Before k → MayRemain d m (k ∷ ks)
    go OnlyIm (inl e) = is Im OnlyIm e (λ l. subst InOrder (sym (cons Im l.2)) (in_order l.1))
    go OnlyIm (inr e) = elim e [ ]
    go OnlyR14 (inl e) = is R14 OnlyR14 e one_more
    go OnlyR14 (inr e) = elim e [ ]
    go R16OrR20 (inl e) = is R16 R16OrR20 e (λ l. (R16 ∷ [], ks, with_16, l, refl))
    go R16OrR20 (inr (inl e)) = is R20 R16OrR20 e (λ l. ([], R20 ∷ ks, no_16, from_reasons R20 (R30 ∷ R40 ∷ []) l, refl))
    go R16OrR20 (inr (inr e)) = elim e [ ]
    go OnlyR20 (inl e) = is R20 OnlyR20 e (from_reasons R20 (R30 ∷ R40 ∷ []))
    go OnlyR20 (inr e) = elim e [ ]
    go OnlyR30 (inl e) = is R30 OnlyR30 e (from_reasons R30 (R40 ∷ []))
    go OnlyR30 (inr e) = elim e [ ]
    go OnlyR40 (inl e) = is R40 OnlyR40 e (from_reasons R40 [])
    go OnlyR40 (inr e) = elim e [ ]
    go R50OrR59 (inl e) = is R50 R50OrR59 e (λ l. (R50 ∷ [], l.0, one_50, l.1, cons R50 l.2))
    go R50OrR59 (inr (inl e)) = is R59 R50OrR59 e (λ l. let o = further m ks (ltb m 4) refl l in (replicate (suc o.0) R59, o.1, some_59 (suc o.0) (omega arith) (omega (arith, o.2)), o.4, o.5))
    go R50OrR59 (inr (inr e)) = elim e [ ]
    go R59OrR51 (inl e) = is R59 R59OrR51 e (λ l few. let o = further m ks (ltb m 4) refl l in (suc o.0, o.1, o.3 few, o.4, o.5))
    go R59OrR51 (inr (inl e)) = is R51 R59OrR51 e (λ l few. (0, l.0, omega arith, l.1, cons R51 l.2))
    go R59OrR51 (inr (inr e)) = elim e [ ]
    go OnlyR51 (inl e) = is R51 OnlyR51 e (λ l. (l.0, l.1, cons R51 l.2))
    go OnlyR51 (inr e) = elim e [ ]
    go OnlyR70 (inl e) = is R70 OnlyR70 e (λ l. (ks, l, refl))
    go OnlyR70 (inr e) = elim e [ ]
    go R14OrEf (inl e) = is R14 R14OrEf e (λ l. inr (one_more l))
    go R14OrEf (inr (inl e)) = is Ef R14OrEf e (λ l. inl (cons Ef l))
    go R14OrEf (inr (inr e)) = elim e [ ]
    go Nothing e = elim e [ ]

pub order_sound : (p : Place) (ks : List RecordKind) → Allowed p ks → (place_through p ks).due ≡ Nothing → MayRemain p.due p.further ks
order_sound p [] a e = subst (λ (d : Due). MayRemain d p.further []) (sym e) refl
order_sound p (k ∷ ks) a e = record_in_front p.due p.further k ks a.0 (order_sound (place_after p.further k) ks a.1 e)

-- from the grammar to the walk
coordinates-run : {cs : List RecordKind} → Coordinates cs → Allowed (place_due R16OrR20) cs × In R20 (permitted (place_through (place_due R16OrR20) cs).due)
coordinates-run no_16 = (tt, inr (inl refl))
coordinates-run with_16 = ((inl refl, tt), inl refl)

-- further 59s, where m stand before them
furthers_run :
    (n m : ℕ) → n + m ≤ 5 → let p : Place = record { due = R59OrR51; further = m } in
    Allowed p (replicate n R59) × In R51 (permitted (place_through p (replicate n R59)).due)
furthers_run zero m few = (tt, inr (inl refl))
furthers_run (suc n) m few = go (ltb m 4) refl (furthers_run n (suc m) (omega arith))
  where
    last_one : (n : ℕ) → n ≡ 0 → Allowed (place_due OnlyR51) (replicate n R59) × In R51 (permitted (place_through (place_due OnlyR51) (replicate n R59)).due)
    last_one zero e = (tt, inl refl)
    last_one (suc n) e = absurd (omega arith)

    go :
        (b : Bool) → ltb m 4 ≡ b → let q : Place = record { due = R59OrR51; further = suc m } in Allowed q (replicate n R59) × In R51 (permitted (place_through q (replicate n R59)).due)
        → let p : Place = cond b (record { due = R59OrR51; further = suc m }) (place_due OnlyR51) in
        (In R59 (permitted R59OrR51) × Allowed p (replicate n R59)) × In R51 (permitted (place_through p (replicate n R59)).due)
    go true e rest = ((inl refl, rest.0), rest.1)
    go false e rest =
        let none : n ≡ 0 = omega (arith, ltb-false m 4 e) in
        let ends = last_one n none in
        ((inl refl, ends.0), ends.1)

reasons_run : {rs : List RecordKind} → Reasons rs → Allowed (place_due R50OrR59) rs × In R51 (permitted (place_through (place_due R50OrR59) rs).due)
reasons_run one_50 = ((inl refl, tt), inl refl)
reasons_run (some_59 zero some few) = absurd (omega arith)
reasons_run (some_59 (suc n) some few) =
    let rest = furthers_run n 1 (omega arith) in
    ((inr (inl refl), rest.0), rest.1)

-- where a 14 may come, a disposition may, and after it a 14 or the trailer
abbrev Runs : Place → List RecordKind → Place → Type 0
Runs p ks q = Allowed p ks × (place_through p ks ≡ q)

runs_on : (p : Place) (ks ls : List RecordKind) (q r : Place) → Runs p ks q → Runs q ls r → Runs p (ks ++ ls) r
runs_on p ks ls q r a b =
    (allowed_append p ks ls a.0 (subst (λ (x : Place). Allowed x ls) (sym a.1) b.0), after-append p ks ls ∙ ap (λ (x : Place). place_through x ls) a.1 ∙ b.1)

disposition_runs : (p : Place) {ks : List RecordKind} → In R14 (permitted p.due) → Disposition ks → Runs p ks (place_due R14OrEf)
disposition_runs p i (disposition {cs = cs} {rs = rs} c r) =
    let start = coordinates-run c in
    let reasons = reasons_run r in
    let ends = R51 ∷ R70 ∷ [] in
    let middle = R20 ∷ R30 ∷ R40 ∷ (rs ++ ends) in
    let allowed-rest = allowed_append (place_due R50OrR59) rs ends reasons.0 (reasons.1, (inl refl, tt)) in
    ((i, allowed_append (place_due R16OrR20) cs middle start.0 (start.1, (inl refl, (inl refl, allowed-rest)))), after-append (place_due R16OrR20) cs middle ∙ after-append (place_due R50OrR59) rs ends)

dispositions-run : (p : Place) {ks : List RecordKind} → In R14 (permitted p.due) → Dispositions ks → Runs p ks (place_due R14OrEf)
dispositions-run p i (last d) = disposition_runs p i d
dispositions-run p i (more {ks = ks} {ls = ls} d ds) = runs_on p ks ls (place_due R14OrEf) (place_due R14OrEf) (disposition_runs p i d) (dispositions-run (place_due R14OrEf) (inl refl) ds)

pub order_runs : {ks : List RecordKind} → InOrder ks → Allowed (place_due OnlyIm) ks × (place_through (place_due OnlyIm) ks ≡ place_due Nothing)
order_runs (in_order {ks = ks} ds) =
    let r = runs_on (place_due OnlyR14) ks (Ef ∷ []) (place_due R14OrEf) (place_due Nothing) (dispositions-run (place_due OnlyR14) (inl refl) ds) ((inr (inl refl), tt), refl) in
    ((inl refl, r.0), r.1)

-- a kind is permitted exactly where some flow in order goes on with it: a shortest end of a flow after each place
abbrev shortest : List RecordKind
shortest = Im ∷ R14 ∷ R20 ∷ R30 ∷ R40 ∷ R50 ∷ R51 ∷ R70 ∷ Ef ∷ []

abbrev finish : Due → List RecordKind
finish OnlyIm = drop 0 shortest
finish OnlyR14 = drop 1 shortest
finish R16OrR20 = drop 2 shortest
finish OnlyR20 = drop 2 shortest
finish OnlyR30 = drop 3 shortest
finish OnlyR40 = drop 4 shortest
finish R50OrR59 = drop 5 shortest
finish R59OrR51 = drop 6 shortest
finish OnlyR51 = drop 6 shortest
finish OnlyR70 = drop 7 shortest
finish R14OrEf = drop 8 shortest
finish Nothing = drop 9 shortest

finish_runs : (d : Due) (m : ℕ) → let p : Place = record { due = d; further = m } in Allowed p (finish d) × ((place_through p (finish d)).due ≡ Nothing)
finish_runs OnlyIm m = ((inl refl, (inl refl, (inr (inl refl), (inl refl, (inl refl, (inl refl, (inl refl, (inl refl, (inr (inl refl), tt))))))))), refl)
finish_runs OnlyR14 m = ((inl refl, (inr (inl refl), (inl refl, (inl refl, (inl refl, (inl refl, (inl refl, (inr (inl refl), tt)))))))), refl)
finish_runs R16OrR20 m = ((inr (inl refl), (inl refl, (inl refl, (inl refl, (inl refl, (inl refl, (inr (inl refl), tt))))))), refl)
finish_runs OnlyR20 m = ((inl refl, (inl refl, (inl refl, (inl refl, (inl refl, (inl refl, (inr (inl refl), tt))))))), refl)
finish_runs OnlyR30 m = ((inl refl, (inl refl, (inl refl, (inl refl, (inl refl, (inr (inl refl), tt)))))), refl)
finish_runs OnlyR40 m = ((inl refl, (inl refl, (inl refl, (inl refl, (inr (inl refl), tt))))), refl)
finish_runs R50OrR59 m = ((inl refl, (inl refl, (inl refl, (inr (inl refl), tt)))), refl)
finish_runs R59OrR51 m = ((inr (inl refl), (inl refl, (inr (inl refl), tt))), refl)
finish_runs OnlyR51 m = ((inl refl, (inl refl, (inr (inl refl), tt))), refl)
finish_runs OnlyR70 m = ((inl refl, (inr (inl refl), tt)), refl)
finish_runs R14OrEf m = ((inr (inl refl), tt), refl)
finish_runs Nothing m = (tt, refl)

pub may_go_on : (ks : List RecordKind) (k : RecordKind) → Allowed (place_due OnlyIm) ks → In k (permitted (place_through (place_due OnlyIm) ks).due) → (rest : List RecordKind) × InOrder (ks ++ (k ∷ rest))
may_go_on ks k a i =
    let here = place_through (place_due OnlyIm) ks in
    let next = place_after here.further k in
    let ends = finish next.due in
    let runs = finish_runs next.due next.further in
    let due : (place_through (place_due OnlyIm) (ks ++ (k ∷ ends))).due ≡ Nothing = ap (λ (q : Place). q.due) (after-append (place_due OnlyIm) ks (k ∷ ends)) ∙ runs.1 in
    (ends, order_sound (place_due OnlyIm) (ks ++ (k ∷ ends)) (allowed_append (place_due OnlyIm) ks (k ∷ ends) a (i, runs.0)) due)

pub went_on : (ks : List RecordKind) (k : RecordKind) (rest : List RecordKind) → InOrder (ks ++ (k ∷ rest)) → Allowed (place_due OnlyIm) ks × In k (permitted (place_through (place_due OnlyIm) ks).due)
went_on ks k rest o =
    let a = (order_runs o).0 in
    (allowed_before (place_due OnlyIm) ks (k ∷ rest) a, (allowed_after (place_due OnlyIm) ks (k ∷ rest) a).0)

-- a flow has one header, and it comes first
no_header : (ks : List RecordKind) (l : RecordKind) → All (λ (k : RecordKind). heads k ≡ false) ks → In l ks → heads l ≡ false
no_header [] l none h = absurd h
no_header (k ∷ ks) l none (inl e) = ap heads e ∙ none.0
no_header (k ∷ ks) l none (inr h) = no_header ks l none.1 h

none-permitted : (m : ℕ) (k : RecordKind) → All (λ (l : RecordKind). heads l ≡ false) (permitted (place_after m k).due)
none-permitted m Im = (refl, tt)
none-permitted m R14 = (refl, (refl, tt))
none-permitted m R16 = (refl, tt)
none-permitted m R20 = (refl, tt)
none-permitted m R30 = (refl, tt)
none-permitted m R40 = (refl, (refl, tt))
none-permitted m R50 = (refl, tt)
none-permitted m R59 = by (ltb m 4)
  where
    by : (b : Bool) → All (λ (l : RecordKind). heads l ≡ false) (permitted (cond b (record { due = R59OrR51; further = suc m }) (place_due OnlyR51)).due)
    by true = (refl, (refl, tt))
    by false = (refl, tt)
none-permitted m R51 = (refl, tt)
none-permitted m R70 = (refl, (refl, tt))
none-permitted m Ef = tt

later_not_header : (m : ℕ) (k : RecordKind) (ks : List RecordKind) → Allowed (place_after m k) ks → All (λ (l : RecordKind). heads l ≡ false) ks
later_not_header m k [] allowed = tt
later_not_header m k (l ∷ ks) allowed = (no_header (permitted (place_after m k).due) l (none-permitted m k) allowed.0, later_not_header (place_after m k).further l ks allowed.1)

pub header_only_first : (k : RecordKind) (ks : List RecordKind) → Allowed (place_due OnlyIm) (k ∷ ks) → (k ≡ Im) × All (λ (l : RecordKind). heads l ≡ false) ks
header_only_first k ks allowed = (first allowed.0, later_not_header 0 k ks allowed.1)
  where
    first : In k (Im ∷ []) → k ≡ Im
    first (inl e) = e
    first (inr h) = absurd h

-- no record but the last is an EF
open_after : (m : ℕ) (l k : RecordKind) → In l (permitted (place_after m k).due) → closes k ≡ false
open_after m l = each-kind (λ (k : RecordKind). In l (permitted (place_after m k).due) → closes k ≡ false) (λ h. refl, (λ h. refl, (λ h. refl, (λ h. refl, (λ h. refl, (λ h. refl, (λ h. refl, (λ h. refl, (λ h. refl, (λ h. refl, (λ h. absurd h, tt)))))))))))

pub all_open : (p : Place) (ks : List RecordKind) (l : RecordKind) → Allowed p (ks ++ (l ∷ [])) → All (λ (k : RecordKind). closes k ≡ false) ks
all_open p [] l allowed = tt
all_open p (k ∷ []) l allowed = (open_after p.further l k allowed.1.0, tt)
all_open p (k ∷ m ∷ ks) l allowed = (open_after p.further m k allowed.1.0, all_open (place_after p.further k) (m ∷ ks) l allowed.1)
