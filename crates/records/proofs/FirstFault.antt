-- How early returns meet a list of checks. Assumes nothing.
use Prim.Native.Nat.{ℕ, zero, suc}
use mathlib.Core.Bool.{Bool, true, false, cond}
use mathlib.Core.List.{List, [], ◌∷◌, ◌++◌, append_assoc}
use mathlib.Core.Path.{◌≡◌, refl, sym, ◌∙◌, ap}
use native.Mathlib.Omega.{arith}
use lib.ListN.{take, drop, take-append-drop}
use Rattle.std.specs.Prelude.{Result, Ok, Err}
use Rattle.refusals.specs.Numbers.{number_of}
use Rattle.records.specs.declared.judged.Fault.{Fault}
use Rattle.records.specs.declared.judged.Record.{Record}
use Rattle.records.specs.RecordVerdict.{RecordVerdict, right, refused, Check, check, first_fault, Hold, FirstBroken, Settles, judged_verdict}
use Rattle.records.specs.declared.kind.RecordKind.{RecordKind}

-- checks that hold leave it to what follows them
pub held : (hs cs : List Check) (rest : RecordVerdict) → Hold hs → first_fault (hs ++ cs) rest ≡ first_fault cs rest
unfolding first_fault
held [] cs rest h = refl
held (check b n p ∷ hs) cs rest h = rw h.0 (held hs cs rest h.1)

-- and where one of them fails
pub broken_front : (hs cs : List Check) (rest : RecordVerdict) (n p : ℕ) → FirstBroken hs n p → first_fault (hs ++ cs) rest ≡ refused n p
unfolding first_fault
broken_front hs cs rest n p (kept, after, parts, so) =
    let split : hs ++ cs ≡ kept ++ (check false n p ∷ (after ++ cs)) = ap (λ (l : List Check). l ++ cs) parts ∙ append_assoc kept (check false n p ∷ after) cs in
    ap (λ (l : List Check). first_fault l rest) split ∙ held kept (check false n p ∷ (after ++ cs)) rest so

-- of two lists the first decides before the second
pub in_turn : (cs ds : List Check) (rest : RecordVerdict) → first_fault (cs ++ ds) rest ≡ first_fault cs (first_fault ds rest)
unfolding first_fault
in_turn [] ds rest = refl
in_turn (check b n p ∷ cs) ds rest = ap (λ (v : RecordVerdict). cond b v (refused n p)) (in_turn cs ds rest)

-- for code that makes checks in order: m of them have ended it from the k-th on, and those before them held
stops :
    (k m : ℕ) (cs : List Check) (rest : RecordVerdict) {n p : ℕ} → Hold (take k cs) → ((after : RecordVerdict) → first_fault (take m (drop k cs)) after ≡ refused n p)
    → first_fault cs rest ≡ refused n p
stops k m cs rest before now =
    let parts = ap (λ (l : List Check). first_fault l rest) (sym (take-append-drop k cs)) ∙ held (take k cs) (drop k cs) rest before in
    let at = ap (λ (l : List Check). first_fault l rest) (sym (take-append-drop m (drop k cs))) ∙ in_turn (take m (drop k cs)) (drop m (drop k cs)) rest in
    parts ∙ at ∙ now (first_fault (drop m (drop k cs)) rest)

pub ends :
    (k m : ℕ) (cs : List Check) (rest : RecordVerdict) (f : Fault) (r : Result Record Fault) → r ≡ Err f → Hold (take k cs)
    → ((after : RecordVerdict) → first_fault (take m (drop k cs)) after ≡ refused (number_of f.reason) f.position) → judged_verdict r ≡ first_fault cs rest
ends k m cs rest f r so before now = ap judged_verdict so ∙ sym (stops k m cs rest before now)

pub ends_so :
    (k m : ℕ) (cs : List Check) (f : Fault) (r : Result ℕ Fault) → r ≡ Err f → Hold (take k cs)
    → ((after : RecordVerdict) → first_fault (take m (drop k cs)) after ≡ refused (number_of f.reason) f.position) → Settles r cs
ends_so k m cs f r so before now = rw so (λ rest. stops k m cs rest before now)

-- and where all have held
pub passes : (cs : List Check) (rest : RecordVerdict) → Hold cs → rest ≡ first_fault cs rest
unfolding first_fault
passes [] rest h = refl
passes (check b n p ∷ cs) rest h = rw h.0 (passes cs rest h.1)

-- checks that the code makes one after the other: those made first end it, or they held and those made next decide
pub ends_first : (cs ds : List Check) (f : Fault) → Settles {A = Unit} (Err f) cs → Settles {A = Unit} (Err f) (cs ++ ds)
ends_first cs ds f s = λ rest. in_turn cs ds rest ∙ s (first_fault ds rest)

pub goes_on : {A : Type 0} (cs ds : List Check) (r : Result A Fault) → Hold cs → Settles r ds → Settles r (cs ++ ds)
goes_on cs ds (Ok a) h s = all_hold cs h
  where
    all_hold : (hs : List Check) → Hold hs → Hold (hs ++ ds)
    all_hold [] t = s
    all_hold (check b n p ∷ hs) t = (t.0, all_hold hs t.1)
goes_on cs ds (Err f) h s = λ rest. held cs ds rest h ∙ s rest

-- a right record has kept every check
pub right-not-refused : {k : RecordKind} {c n p : ℕ} → refused n p ≡ right k c → ⊥
right-not-refused e = let z : ◌≡◌ {A = ℕ} 0 1 = cc in omega arith

pub kept : (b : Bool) (n p : ℕ) (cs : List Check) (rest : RecordVerdict) {k : RecordKind} {c : ℕ} → first_fault (check b n p ∷ cs) rest ≡ right k c → (b ≡ true) × (first_fault cs rest ≡ right k c)
unfolding first_fault
kept true n p cs rest e = (refl, e)
kept false n p cs rest e = absurd (right-not-refused e)

-- also those of a list that stands first
pub kept_front : (hs cs : List Check) (rest : RecordVerdict) {k : RecordKind} {c : ℕ} → first_fault (hs ++ cs) rest ≡ right k c → Hold hs
kept_front [] cs rest e = tt
kept_front (check b n p ∷ hs) cs rest e =
    let both = kept b n p (hs ++ cs) rest e in
    (both.0, kept_front hs cs rest both.1)

-- and what is left of them after the first n
pub after : (n : ℕ) (cs : List Check) (rest : RecordVerdict) {k : RecordKind} {c : ℕ} → first_fault cs rest ≡ right k c → first_fault (drop n cs) rest ≡ right k c
after zero cs rest e = e
after (suc n) [] rest e = e
after (suc n) (check b m p ∷ cs) rest e = after n cs rest (kept b m p cs rest e).1

-- nor is anything else found than what follows them
pub kept_all : (cs : List Check) (rest : RecordVerdict) {k : RecordKind} {c : ℕ} → first_fault cs rest ≡ right k c → rest ≡ right k c
unfolding first_fault
kept_all [] rest e = e
kept_all (check b n p ∷ cs) rest e = kept_all cs rest (kept b n p cs rest e).1
