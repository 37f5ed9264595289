-- A record of 120 bytes is judged by the checks of its kind. Assumes nothing.
use Prim.Native.Nat.{ℕ}
use mathlib.Core.Bool.{Bool, true, false, cond}
use mathlib.Core.List.{List, [], ◌∷◌}
use mathlib.Core.Path.{◌≡◌, refl, sym, ◌∙◌, ap}
use lib.Dec.{eqb}
use lib.ListN.{length}
use borrow.Author.Tests.{eq-eqb}
use Rattle.fields.specs.Bytes.{is_equal}
use Rattle.fields.proofs.Bytes.{equal_exact}
use Rattle.records.specs.Checks.{checks}
use Rattle.records.specs.Context.{Context}
use Rattle.records.specs.Field.{field}
use Rattle.records.specs.RecordVerdict.{right, refused, first_fault, judged_verdict}
use Rattle.records.specs.Judge.{asked, judge_as}
use Rattle.records.specs.Kinds.{type_of, has_type, is_opening, opens}
use Rattle.records.specs.Laws.{TypesDiffer, RightAsked, JudgedDetermined}
use Rattle.std.specs.Prelude.{Ok, Err}
use Rattle.refusals.specs.Numbers.{number_of}
use Rattle.refusals.proofs.Numbers.{number_told}
use Rattle.records.specs.declared.kind.RecordKind.{RecordKind}
use Rattle.records.specs.declared.kind.RecordKind.TheVariants.{Im, R14, R16, R20, R30, R40, R50, R59, R51, R70, Ef}
use Rattle.records.proofs.FirstFault.{right-not-refused, kept_all}

pub of_kind : {k k' : RecordKind} (ctx : Context) (rec : List ℕ) → k ≡ k' → length rec ≡ 120 → first_fault (checks k' ctx rec) (right k' (asked k' rec)) ≡ judge_as k ctx rec
unfolding judge_as
of_kind ctx rec e whole = rw (e, eq-eqb (length rec) 120 whole)

-- a record that is right is of the kind that it was judged as, and asks for that kind's cents
pub right-asked : RightAsked
unfolding judge_as
right-asked k l ctx rec c = go (eqb (length rec) 120)
  where
    go : (b : Bool) → cond b (first_fault (checks k ctx rec) (right k (asked k rec))) (refused 1 0) ≡ right l c → (k ≡ l) × (c ≡ asked k rec)
    go true x =
        let same = kept_all (checks k ctx rec) (right k (asked k rec)) x in
        (cc, cc)
    go false x = absurd (right-not-refused x)

-- the kind that a type names: the first of ks, and Ef where it is none of them
abbrev named : List RecordKind → List ℕ → RecordKind
named [] t = Ef
named (k ∷ ks) t = cond (is_equal t (type_of k)) k (named ks t)

abbrev named_any : List ℕ → RecordKind
named_any t = named (Im ∷ R14 ∷ R16 ∷ R20 ∷ R30 ∷ R40 ∷ R50 ∷ R59 ∷ R51 ∷ R70 ∷ []) t

type_named : (k : RecordKind) → named_any (type_of k) ≡ k
unfolding is_equal
type_named Im = refl
type_named R14 = refl
type_named R16 = refl
type_named R20 = refl
type_named R30 = refl
type_named R40 = refl
type_named R50 = refl
type_named R59 = refl
type_named R51 = refl
type_named R70 = refl
type_named Ef = refl

pub types_differ : TypesDiffer
types_differ k l e = sym (type_named k) ∙ ap named_any e ∙ type_named l

-- the type at 2-3, as a test and as it is said
pub type-said : (k : RecordKind) (rec : List ℕ) → has_type k rec ≡ true → field 2 3 rec ≡ type_of k
type-said k rec t = (equal_exact (field 2 3 rec) (type_of k)).0 t

pub type_tested : (k : RecordKind) (rec : List ℕ) → field 2 3 rec ≡ type_of k → has_type k rec ≡ true
type_tested k rec e = (equal_exact (field 2 3 rec) (type_of k)).1 e

-- a record has one type
pub one_type : (k l : RecordKind) (rec : List ℕ) → has_type k rec ≡ true → has_type l rec ≡ true → k ≡ l
one_type k l rec t u = types_differ k l (sym (type-said k rec t) ∙ type-said l rec u)

-- the type of a record that opens a disposition is 14
opens-type_of : (k : RecordKind) → opens k ≡ is_equal (type_of k) (type_of R14)
unfolding is_equal
opens-type_of Im = refl
opens-type_of R14 = refl
opens-type_of R16 = refl
opens-type_of R20 = refl
opens-type_of R30 = refl
opens-type_of R40 = refl
opens-type_of R50 = refl
opens-type_of R59 = refl
opens-type_of R51 = refl
opens-type_of R70 = refl
opens-type_of Ef = refl

pub opens-type : (k : RecordKind) (rec : List ℕ) → has_type k rec ≡ true → opens k ≡ is_opening rec
opens-type k rec e = rw (type-said k rec e) (opens-type_of k)

-- what an answer stands for determines it
pub judged_determined : JudgedDetermined
judged_determined (Ok r) (Ok s) e = λ i. Ok (record { kind = kind_of e i; cents = cents_of e i })
  where
    kind_of : judged_verdict (Ok r) ≡ judged_verdict (Ok s) → r.kind ≡ s.kind
    kind_of e = cc

    cents_of : judged_verdict (Ok r) ≡ judged_verdict (Ok s) → r.cents ≡ s.cents
    cents_of e = cc
judged_determined (Ok r) (Err g) e = absurd (right-not-refused (sym e))
judged_determined (Err f) (Ok s) e = absurd (right-not-refused e)
judged_determined (Err f) (Err g) e = λ i. Err (record { reason = number_told f.reason g.reason (reason_of e) i; position = position_of e i })
  where
    reason_of : judged_verdict (Err f) ≡ judged_verdict (Err g) → number_of f.reason ≡ number_of g.reason
    reason_of e = cc

    position_of : judged_verdict (Err f) ≡ judged_verdict (Err g) → f.position ≡ g.position
    position_of e = cc
