-- The answers of writing and reading back: what a call that fills an output comes to, what reading back refuses, and what an answer
-- determines. Assumes nothing.
use Prim.Native.Nat.{ℕ}
use mathlib.Core.List.{List}
use mathlib.Core.Path.{◌≡◌, refl, sym, ap}
use lib.ListN.{length}
use native.Mathlib.Omega.{arith}
use Rattle.sequences.specs.Part.{put}
use Rattle.flow.specs.Judge.{judge}
use Rattle.flow.specs.Output.{Output, output}
use Rattle.flow.specs.Verdict.{Verdict, accepted, verdict}
use Rattle.flow.specs.declared.answer.Totals.{Totals}
use Rattle.flow.specs.declared.answer.Refusal.{Refusal as Code-Refusal}
use Rattle.flow.proofs.Accepted.{accepted-not-refused, accepted-same, answer_determined}
use Rattle.flow.proofs.Output.{output_leaves, room_exact}
use Rattle.list.specs.Encode.{encode}
use Rattle.list.specs.Items.{Parsed, items, faulty, items_or, items_in, item_count}
use Rattle.list.specs.Laws.{WriteAnswers, WriteLeaves, ReadBackAnswers, ReadBackAccepted, ReadBackRefused, ReadBackLeaves, FilledDetermined}
use Rattle.list.specs.Output.{filled_output}
use Rattle.list.specs.ReadBack.{list_of, judge_room, read_back}
use Rattle.list.specs.Write.{judge_list, write}
use Rattle.list.proofs.Written.{written_exact}
use Rattle.std.specs.Prelude.{Result, Ok, Err}
use Rattle.list.specs.declared.filled.Filled.{Filled}

-- how many items there are, or which is none, tells what was read
pub items-counted : (p : Parsed) (n : ℕ) → item_count p ≡ Ok n → (p ≡ items (items_or p)) × (length (items_or p) ≡ n)
items-counted (items is) n e = (refl, cc)
items-counted (faulty m) n e = let z : ◌≡◌ {A = ℕ} 0 1 = cc in absurd (omega arith)

pub faulty-counted : (p : Parsed) (n : ℕ) → item_count p ≡ Err n → p ≡ faulty n
faulty-counted (items is) n e = let z : ◌≡◌ {A = ℕ} 0 1 = cc in absurd (omega arith)
faulty-counted (faulty m) n e = cc

-- a call that fills an output is refused, or accepted
pub filled_refused : {v : Verdict Totals} (x : Code-Refusal) (bytes out : List ℕ) → verdict (Err x) ≡ v → filled_output (Err x) out ≡ output v bytes out
filled_refused x bytes out told = rw (sym told) refl

pub filled_accepted :
    {v : Verdict Totals} (f : Filled) (bytes out after : List ℕ) → verdict (Ok f.totals) ≡ v → f.length ≡ length bytes → after ≡ put 0 bytes out → filled_output (Ok f) after ≡ output v bytes out
filled_accepted f bytes out after told size stored = rw (sym told) (λ i. record { answer = accepted f.totals; written = size i; bytes = stored i })

-- the rest is what is true of any call that fills an output
pub read_back-refused : ReadBackRefused
unfolding judge_room
read_back-refused f room = (room_exact Totals (judge f) (length (list_of f)) room).1

pub read_back-accepted : ReadBackAccepted
unfolding judge_room
read_back-accepted f room = (room_exact Totals (judge f) (length (list_of f)) room).0

pub write_answers : WriteAnswers
unfolding write
write_answers list out = (output_leaves Totals (judge_list list (length out)) (encode (items_in list)) out).0

pub read_back_answers : ReadBackAnswers
unfolding read_back
read_back_answers f out = (output_leaves Totals (judge_room f (length out)) (list_of f) out).0

pub write_leaves : WriteLeaves
unfolding write
write_leaves list out =
    let so = output_leaves Totals (judge_list list (length out)) (encode (items_in list)) out in
    (λ t e. so.1 t e (written_exact list (length out) t e).4, so.2)

pub read_back_leaves : ReadBackLeaves
unfolding read_back
read_back_leaves f out =
    let so = output_leaves Totals (judge_room f (length out)) (list_of f) out in
    (λ t e. so.1 t e ((read_back-accepted f (length out) t).0 e).1, so.2)

pub filled_determined : FilledDetermined
filled_determined (Ok f) (Ok g) out e =
    let totals = accepted-same (ap (λ (o : Output Totals). o.answer) e) in
    let length-same = ap (λ (o : Output Totals). o.written) e in
    λ i. Ok (record { totals = totals i; length = length-same i })
filled_determined (Ok f) (Err y) out e = absurd (accepted-not-refused (sym (ap (λ (o : Output Totals). o.answer) e)))
filled_determined (Err x) (Ok g) out e = absurd (accepted-not-refused (ap (λ (o : Output Totals). o.answer) e))
filled_determined (Err x) (Err y) out e = error (answer_determined (Err x) (Err y) (ap (λ (o : Output Totals). o.answer) e))
  where
    error : {a b : Code-Refusal} → ◌≡◌ {A = Result Totals Code-Refusal} (Err a) (Err b) → ◌≡◌ {A = Result Filled Code-Refusal} (Err a) (Err b)
    error {a} {b} same = let one : a ≡ b = cc in ap Err one
