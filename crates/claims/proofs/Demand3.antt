-- Demand 3: by induction over the calls, from one call beside one entry of the ledger. Assumes nothing.
use Prim.Native.Nat.{ℕ, ◌+◌, ◌-◌}
use mathlib.Core.List.{List, [], ◌∷◌, ◌++◌, append-nil, append_assoc}
use mathlib.Core.Path.{◌≡◌, refl, sym, ◌∙◌, ap, ap₂, subst}
use native.Mathlib.Omega.{arith}
use lib.ListN.{length, replicate, length-append, length-replicate, replicate-append-replicate}
use lib.Seq.{take_at}
use Rattle.sequences.specs.Part.{put}
use Rattle.sequences.proofs.Part.{put_at}
use Rattle.flow.specs.Judge.{judge}
use Rattle.flow.specs.Verdict.{accepted}
use Rattle.flow.specs.declared.answer.Totals.{Totals}
use Rattle.list.specs.Encode.{encode}
use Rattle.list.specs.Items.{Item, list_bytes}
use Rattle.list.specs.ReadBack.{items_of}
use Rattle.amend.specs.Laws.{flow_left}
use Rattle.claims.specs.Demand3.{Touched, Demand3}
use Rattle.claims.specs.Ledger.{Call, Reply, Entry, entry, list_after, replies_on}
use Rattle.claims.specs.Run.{Memory, holding, flow_in, amend, reply_of, memory_after, run, replies, EachCall}
use Rattle.claims.proofs.OneCall.{Held, held_as, Step, one-step, call_touched}

-- memory that holds a flow, and blanks after it
abbrev blanks_after : List ℕ → ℕ → Memory
blanks_after g room = record { bytes = g ++ replicate room 32; size = length g }

held_so : (g : List ℕ) (room : ℕ) → flow_in (blanks_after g room) ≡ g
held_so g room = take_at g (replicate room 32) (length g) refl

-- after a call it holds the flow left, and blanks
after_so :
    (call : Call) (g : List ℕ) (room : ℕ) (e : Entry) → Step g call (amend call g) e → let a = amend call g in
    memory_after call (blanks_after g room) ≡ blanks_after (flow_left a) (length g - a.size + room)
after_so call g room e s =
    let a = amend call g in
    let rest : List ℕ = replicate room 32 in
    let freed : List ℕ = replicate (length g - a.size) 32 in
    let h = s.held in
    let kept = h.within in
    let size : length g ≡ length a.bytes = sym (ap (λ (l : List ℕ). length l) h.memory ∙ length-append (flow_left a) freed ∙ omega (arith, h.sized, length-replicate {A = ℕ} (length g - a.size) 32)) in
    let over : put 0 a.bytes (g ++ rest) ≡ a.bytes ++ rest = put_at 0 [] g rest a.bytes refl size in
    let apart : a.bytes ++ rest ≡ flow_left a ++ replicate (length g - a.size + room) 32 =
    ap (λ (l : List ℕ). l ++ rest) h.memory ∙ append_assoc (flow_left a) freed rest ∙ ap (λ (l : List ℕ). flow_left a ++ l) (replicate-append-replicate (length g - a.size) room 32) in
    (λ i. record { bytes = put 0 (amend call (held_so g room i)).bytes (g ++ rest); size = (amend call (held_so g room i)).size })
    ∙ (λ i. record { bytes = (over ∙ apart) i; size = sym h.sized i })

-- what is held after a list of calls on an accepted flow, and what was answered
record After (g : List ℕ) (all : ℕ) (m : Memory) (answers : List Reply) (list : List Item) (due : List Reply) : Type 0 where
  held : Held g all m list
  answered : answers ≡ due

after_calls :
    (calls : List Call) (g : List ℕ) (room : ℕ) {t : Totals} → judge g ≡ accepted t → let m = blanks_after g room in
    After g (length g + room) (run calls m) (replies calls m) (list_after calls (items_of g)) (replies_on calls (items_of g))
unfolding run replies list_after replies_on
after_calls [] g room read =
    let blank : room ≡ length g + room - length g = omega arith in
    record {
      held = held_as g (length g + room) (blanks_after g room) (items_of g) g (held_so g room) read refl (λ x. x) refl (omega arith) (ap (λ (i : ℕ). g ++ replicate i 32) blank);
      answered = refl;
    }
after_calls (call ∷ calls) g room read =
    let s = one-step g _ read call in
    let h = s.held in
    let a = amend call g in
    let left = flow_left a in
    let more = length g - a.size + room in
    let within = h.within in
    let all : length left + more ≡ length g + room = omega (arith, h.sized) in
    let rest = after_calls calls left more h.read in
    let reply : reply_of call (amend call (flow_in (blanks_after g room))) ≡ (entry call (items_of g)).reply = ap (λ (l : List ℕ). reply_of call (amend call l)) (held_so g room) ∙ s.reply in
    let next = sym (after_so call g room (entry call (items_of g)) s) in
    let moved = subst (λ (A : Type 0). A) (λ i. After left (all i) (run calls (next i)) (replies calls (next i)) (list_after calls (h.items i)) (replies_on calls (h.items i))) rest in
    let kept = moved.held in
    record {
      held =
          record {
            read = kept.read;
            items = kept.items;
            canonical = λ x. kept.canonical (h.canonical x);
            sized = kept.sized;
            within = kept.within;
            memory = kept.memory;
          };
      answered = ap₂ (λ (x : Reply) (xs : List Reply). x ∷ xs) reply moved.answered;
    }

touched_all : (calls : List Call) (m : Memory) → EachCall Touched calls m
unfolding EachCall
touched_all [] m = tt
touched_all (call ∷ calls) m = (call_touched call (flow_in m), touched_all calls (memory_after call m))

pub demand3 : Demand3
demand3 f t read calls =
    let first : blanks_after f 0 ≡ holding f = λ i. record { bytes = append-nil f i; size = length f } in
    let all : length f + 0 ≡ length f = omega arith in
    let x = subst (λ (A : Type 0). A) (λ i. After f (all i) (run calls (first i)) (replies calls (first i)) (list_after calls (items_of f)) (replies_on calls (items_of f))) (after_calls calls f 0 read) in
    let h = x.held in (
      record {
        read = h.read;
        items = h.items;
        bytes = ap list_bytes h.items;
        answered = x.answered;
        canonical = λ canonical. sym (h.canonical canonical) ∙ ap encode h.items;
        sized = h.sized;
        within = h.within;
        memory = h.memory;
      },
      touched_all calls (holding f),
    )
