-- The laws of what is returned. Assumes nothing.
use Prim.Native.Nat.{ℕ}
use mathlib.Core.List.{List}
use mathlib.Core.Path.{◌≡◌, refl, ap}
use native.Mathlib.Omega.{arith}
use lib.ListN.{length, get_or}
use Rattle.fields.specs.FieldVerdict.{FieldVerdict}
use Rattle.fields.specs.FieldVerdict.{accepted as FieldVerdict-accepted, refused as FieldVerdict-refused}
use Rattle.records.specs.declared.flow_kind.FlowKind.{FlowKind}
use Rattle.records.specs.declared.flow_kind.FlowKind.TheVariants.{Requests, Recalls}
use Rattle.flow.specs.Output.{output}
use Rattle.flow.specs.Verdict.{Verdict, accepted, refused, refusal}
use Rattle.flow.specs.Verdict.{Refusal}
use Rattle.flow.specs.declared.answer.Totals.{Totals}
use Rattle.flow.specs.declared.location.Location.{Location}
use Rattle.list.specs.Encode.{encode}
use Rattle.list.specs.Items.{items_in}
use Rattle.list.specs.ReadBack.{list_of, judge_room, read_back}
use Rattle.list.specs.Write.{judge_list, write}
use Rattle.amend.specs.Amended.{Amended}
use Rattle.amend.specs.Change.{change}
use Rattle.amend.specs.Withdraw.{withdraw}
use Rattle.amend.proofs.Answered.{refused_untouched}
use Rattle.evenings.specs.Account.{letters}
use Rattle.evenings.specs.Compare.{account_between, compare, judge_comparison, work_after, find_line}
use Rattle.evenings.specs.declared.account_line.AccountLine.{AccountLine}
use Rattle.evenings.specs.declared.comparison.Lines.{Lines}
use Rattle.capi.specs.Laws.{RefusedLeaves, ReturnedTells}
use Rattle.capi.specs.Returned.{Returned, returned_five, kind_entry, of_number, of_refusal, of_verdict, of_found, of_output, of_lines, of_compared, of_line}

-- an output is written where the call is accepted
output_alone : (v : Verdict Totals) (bytes out : List ℕ) → (of_output (output v bytes out)).status ≡ 0 → (output v bytes out).bytes ≡ out
output_alone (accepted t) bytes out e = absurd (omega arith)
output_alone (refused x) bytes out h = refl

written_alone : (list out : List ℕ) → (of_output (write list out)).status ≡ 0 → (write list out).bytes ≡ out
unfolding write
written_alone list out = output_alone (judge_list list (length out)) (encode (items_in list)) out

read_back_alone : (f out : List ℕ) → (of_output (read_back f out)).status ≡ 0 → (read_back f out).bytes ≡ out
unfolding read_back
read_back_alone f out = output_alone (judge_room f (length out)) (list_of f) out

-- what is returned with the status 0 is a refusal
amended_alone : (f : List ℕ) (a : Amended) (l : ℕ) → ((x : Refusal) → a.answer ≡ refused x → a.bytes ≡ f) → (of_verdict a.answer l).status ≡ 0 → a.bytes ≡ f
amended_alone f a l alone = by a.answer refl
  where
    by : (v : Verdict Totals) → a.answer ≡ v → (of_verdict v l).status ≡ 0 → a.bytes ≡ f
    by (accepted t) e h = absurd (omega arith)
    by (refused x) told h = alone x told

-- so is what a comparison returns, and a line
compared_alone :
    (old new work out : List ℕ) → (of_compared (compare old new (length work) out)).status ≡ 0
    → ((compare old new (length work) out).bytes ≡ out) × (work_after (judge_comparison old new (length work) (length out)) work ≡ work)
unfolding compare
compared_alone old new work out = by (judge_comparison old new (length work) (length out))
  where
    by :
        (v : Verdict Lines) → (of_compared (output v (letters (account_between old new)) out)).status ≡ 0
        → ((output v (letters (account_between old new)) out).bytes ≡ out) × (work_after v work ≡ work)
    by (accepted s) h = absurd (omega arith)
    by (refused x) h = (refl, refl)

line_alone : (v : Verdict AccountLine) (work : List ℕ) → (of_line v).status ≡ 0 → work_after v work ≡ work
line_alone (accepted s) work h = absurd (omega arith)
line_alone (refused x) work h = refl

pub refused_leaves : RefusedLeaves
refused_leaves = (
  written_alone,
  read_back_alone,
  λ f k new. amended_alone f (change f k new) 0 (λ x told. ((refused_untouched f k x).0 new told).0),
  λ f k. amended_alone f (withdraw f k) (withdraw f k).size (λ x told. ((refused_untouched f k x).1 told).0),
  compared_alone,
  λ old new work n. line_alone (find_line old new (length work) n) work,
)

-- the i-th entry
abbrev entry : ℕ → Returned → ℕ
entry i r = get_or r.entries i 0

-- what two calls that return the same have in common
module _ {s a b c l k s' a' b' c' l' k' : ℕ} (e : returned_five s a b c l k ≡ returned_five s' a' b' c' l' k') where
  status : s ≡ s'
  status = ap (λ (r : Returned). r.status) e

  first : a ≡ a'
  first = ap (entry 0) e

  second : b ≡ b'
  second = ap (entry 1) e

  third : c ≡ c'
  third = ap (entry 2) e

  fourth : l ≡ l'
  fourth = ap (entry 3) e

  fifth : k ≡ k'
  fifth = ap (entry 4) e

-- each kind has its own number
kinds : (p q : FlowKind) → kind_entry p ≡ kind_entry q → p ≡ q
kinds Requests Requests e = refl
kinds Requests Recalls e = absurd (omega arith)
kinds Recalls Requests e = absurd (omega arith)
kinds Recalls Recalls e = refl

refusals : (x y : Refusal) (l m : ℕ) → of_refusal x l ≡ of_refusal y m → x ≡ y
refusals x y l m e = λ i. refusal (first e i) (second e i) (third e i)

verdicts : (v u : Verdict Totals) (l m : ℕ) → of_verdict v l ≡ of_verdict u m → (v ≡ u) × (l ≡ m)
verdicts (accepted t) (accepted u) l m e = (λ i. accepted (record { kind = kinds t.kind u.kind (fifth e) i; dispositions = first e i; cents = second e i; records = third e i }), fourth e)
verdicts (accepted t) (refused y) l m e = absurd (omega (arith, status e))
verdicts (refused x) (accepted u) l m e = absurd (omega (arith, status e))
verdicts (refused x) (refused y) l m e = (ap refused (refusals x y l m e), fourth e)

places : (v u : Verdict Location) → of_found v ≡ of_found u → v ≡ u
places (accepted s) (accepted r) e = λ i. accepted (record { first = first e i; records = second e i; cents = third e i })
places (accepted s) (refused y) e = absurd (omega (arith, status e))
places (refused x) (accepted s) e = absurd (omega (arith, status e))
places (refused x) (refused y) e = ap refused (refusals x y 0 0 e)

numbers : (v u : FieldVerdict ℕ) → of_number v ≡ of_number u → v ≡ u
numbers (FieldVerdict-accepted v) (FieldVerdict-accepted u) e = ap FieldVerdict-accepted (first e)
numbers (FieldVerdict-accepted v) (FieldVerdict-refused f) e = absurd (omega (arith, status e))
numbers (FieldVerdict-refused f) (FieldVerdict-accepted v) e = absurd (omega (arith, status e))
numbers (FieldVerdict-refused f) (FieldVerdict-refused g) e = ap FieldVerdict-refused (first e)

lines-told : (v u : Verdict Lines) (l m : ℕ) → of_lines v l ≡ of_lines u m → (v ≡ u) × (l ≡ m)
lines-told (accepted s) (accepted r) l m e = (λ i. accepted (record { kept = first e i; dropped = second e i; added = third e i }), fourth e)
lines-told (accepted s) (refused y) l m e = absurd (omega (arith, status e))
lines-told (refused x) (accepted r) l m e = absurd (omega (arith, status e))
lines-told (refused x) (refused y) l m e = (ap refused (refusals x y l m e), fourth e)

line-told : (v u : Verdict AccountLine) → of_line v ≡ of_line u → v ≡ u
line-told (accepted s) (accepted r) e = λ i. accepted (record { letter = first e i; «record» = second e i })
line-told (accepted s) (refused y) e = absurd (omega (arith, status e))
line-told (refused x) (accepted r) e = absurd (omega (arith, status e))
line-told (refused x) (refused y) e = ap refused (refusals x y 0 0 e)

pub returned_tells : ReturnedTells
returned_tells = (verdicts, places, numbers, lines-told, line-told)
