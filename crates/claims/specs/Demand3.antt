-- Demand 3, as one statement about every list of calls. Assumes nothing.
use Rattle.std.specs.Prelude.{ℕ, ◌-◌, ◌≤◌, List, ◌++◌, ◌≡◌, length, replicate}
use Rattle.flow.specs.Find.{find}
use Rattle.flow.specs.Judge.{judge}
use Rattle.flow.specs.Verdict.{accepted, refused}
use Rattle.flow.specs.Verdict.{Refusal}
use Rattle.flow.specs.declared.answer.Totals.{Totals}
use Rattle.flow.specs.declared.location.WithTotals.{WithTotals}
use Rattle.list.specs.Encode.{list_totals, encode}
use Rattle.list.specs.Items.{Item, list_bytes}
use Rattle.list.specs.ReadBack.{items_of, list_of, Canonical}
use Rattle.amend.specs.Amended.{Amended}
use Rattle.amend.specs.Laws.{Untouched, flow_left, AmountOnly, Moved}
use Rattle.claims.specs.Ledger.{Call, change_of, withdrawal_of, Reply, list_after, replies_on}
use Rattle.claims.specs.Run.{Memory, holding, flow_in, run, replies, EachCall}

-- what is left of the flow f in the memory, and what was answered, beside the list on the ledger and its replies
pub record Agrees (f : List ℕ) (after : Memory) (answers : List Reply) (list : List Item) (due : List Reply) : Type 0 where
  -- "the flow left is accepted": with the count, the total and the records of the list on the ledger
  pub read : judge (flow_in after) ≡ accepted (list_totals list)
  -- "its request list is exactly the one on the sheet": as items, and as bytes
  pub items : items_of (flow_in after) ≡ list
  pub bytes : list_of (flow_in after) ≡ list_bytes list
  -- "every call has answered exactly as the sheet does, refusals too"
  pub answered : answers ≡ due
  -- "if the first flow was clean, the flow left is byte for byte what its request list spells"
  pub canonical : Canonical f → flow_in after ≡ encode list
  -- "at the end the first flow's memory holds the flow left, then blanks": at the length that the next call is lent
  pub sized : length (flow_in after) ≡ after.size
  pub within : after.size ≤ length f
  pub memory : after.bytes ≡ flow_in after ++ replicate (length f - after.size) 32

-- what holds after a list of calls on the flow f, with the ledger that "starts as the first flow's list and is kept from the calls alone"
abbrev pub KeepsLedger : List ℕ → List Call → Memory → List Reply → Type 0
KeepsLedger f calls after answers = Agrees f after answers (list_after calls (items_of f)) (replies_on calls (items_of f))

-- the positions that documents 01 and 02 name for an accepted call, where disposition k stands as it was found, and the trailer is the last
-- record: of a change by byte index; of a withdrawal by comparing each record that is kept with the one that it came from
abbrev pub TouchesOnly : Call → List ℕ → Amended → WithTotals → Type 0
TouchesOnly (change_of k new) f a v = AmountOnly f a.bytes v.totals v.location.first
TouchesOnly (withdrawal_of k) f a v = Moved f (flow_left a) v.totals v.location.first v.location.records

abbrev pub number_of : Call → ℕ
number_of (change_of k new) = k
number_of (withdrawal_of k) = k

-- an accepted call: the flow that it was lent is accepted, disposition k stands in it, and no position but these differs
pub record Amends (call : Call) (f : List ℕ) (a : Amended) : Type 0 where
  pub known : WithTotals
  pub read : judge f ≡ accepted known.totals
  pub found : find f (number_of call) ≡ accepted known.location
  pub touches : TouchesOnly call f a known

-- "each accepted call touches only the positions document 01 names for it; each refused one touches none"
pub record Touched (call : Call) (f : List ℕ) (a : Amended) : Type 0 where
  pub only : (t : Totals) → a.answer ≡ accepted t → Amends call f a
  pub none : (x : Refusal) → a.answer ≡ refused x → Untouched f a

-- "take any accepted flow and any list of calls on it", also an empty one
abbrev pub Demand3 : Type 0
Demand3 =
    (f : List ℕ) (t : Totals) → judge f ≡ accepted t → (calls : List Call)
    → KeepsLedger f calls (run calls (holding f)) (replies calls (holding f)) × EachCall Touched calls (holding f)
