-- A list of calls on memory (demand 3: "each call is lent the flow that the one before it left, and nobody else writes to it meanwhile").
-- What a call of the library does is what its contract says, by the contract's own definition. Assumes nothing.
use Rattle.std.specs.Prelude.{ℕ, List, [], ◌∷◌, length, take}
use Rattle.sequences.specs.Part.{put}
use Rattle.flow.specs.Verdict.{Verdict, accepted, refused}
use Rattle.flow.specs.declared.answer.Totals.{Totals}
use Rattle.amend.specs.Amended.{Amended}
use Rattle.amend.specs.Change.{change}
use Rattle.amend.specs.Withdraw.{withdraw}
use Rattle.claims.specs.Ledger.{Call, change_of, withdrawal_of, Reply, change-accepted, withdrawal_accepted, call_refused}

-- what a call leaves of the flow that it is lent: `amend::change` or `amend::withdraw`
abbrev pub amend : Call → List ℕ → Amended
amend (change_of k new) f = change f k new
amend (withdrawal_of k) f = withdraw f k

-- what it is answered, with the length where it is a withdrawal that was accepted
abbrev pub replied : Call → Verdict Totals → ℕ → Reply
replied (change_of k new) (accepted t) size = change-accepted t
replied (withdrawal_of k) (accepted t) size = withdrawal_accepted t size
replied call (refused x) size = call_refused x

abbrev pub reply_of : Call → Amended → Reply
reply_of call a = replied call a.answer a.size

-- the first flow's memory, and how many bytes of it the next call is lent
pub record Memory : Type 0 where
  pub bytes : List ℕ
  pub size : ℕ

-- at first it is the flow, all of it
abbrev pub holding : List ℕ → Memory
holding f = record { bytes = f; size = length f }

-- the flow that it holds: what the next call is lent
abbrev pub flow_in : Memory → List ℕ
flow_in m = take m.size m.bytes

-- the memory after a call
abbrev pub memory_after : Call → Memory → Memory
memory_after call m =
    let a = amend call (flow_in m) in
    record { bytes = put 0 a.bytes m.bytes; size = a.size }

unfoldable pub run : List Call → Memory → Memory
run [] m = m
run (c ∷ cs) m = run cs (memory_after c m)

unfoldable pub replies : List Call → Memory → List Reply
replies [] m = []
replies (c ∷ cs) m = reply_of c (amend c (flow_in m)) ∷ replies cs (memory_after c m)

-- what holds of every call, of the flow that it is lent and of what it leaves
unfoldable pub EachCall : (Call → List ℕ → Amended → Type 0) → List Call → Memory → Type 0
EachCall P [] m = Unit
EachCall P (c ∷ cs) m = P c (flow_in m) (amend c (flow_in m)) × EachCall P cs (memory_after c m)
