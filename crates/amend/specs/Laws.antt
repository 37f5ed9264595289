-- What is proved of the amendments. `proofs/` has its proof under the law's name in small letters. Assumes nothing.
use Rattle.std.specs.Prelude.{ℕ, Result, ◌+◌, ◌-◌, ◌*◌, ◌≤◌, ◌<◌, List, [], ◌∷◌, ◌++◌, ◌↔◌, ◌≡◌, length, take, get_or, replicate}
use Rattle.fields.specs.Amount.{IsAmount}
use Rattle.records.specs.Amount.{amount_span}
use Rattle.records.specs.Field.{Span, ◌to◌, first_of, last_of, byte_at}
use Rattle.records.specs.FlowKinds.{total_span}
use Rattle.records.specs.Limits.{most_cents}
use Rattle.flow.specs.Find.{IsNumber, find}
use Rattle.flow.specs.Judge.{judge}
use Rattle.flow.specs.Records.{record_at, records_of}
use Rattle.flow.specs.Verdict.{accepted, refused, of_call}
use Rattle.grammar.specs.Fault.{company_of}
use Rattle.amend.specs.Amended.{Amended, amended, withdrawn_amended}
use Rattle.amend.specs.Change.{change}
use Rattle.amend.specs.Withdraw.{withdraw}
use Rattle.flow.specs.Verdict.{Refusal}
use Rattle.flow.specs.declared.answer.Refusal.{Refusal as Code-Refusal}
use Rattle.flow.specs.declared.answer.Totals.{Totals}
use Rattle.flow.specs.declared.location.Location.{Location}
use Rattle.amend.specs.declared.withdrawal.Withdrawn.{Withdrawn}

-- document 01's refusals of a change, each where those before it do not apply
pub data ChangeFault (f : List ℕ) (k new : ℕ) : Refusal → Type 0 where
  not_read : (x : Refusal) → judge f ≡ refused x → ChangeFault f k new x
  no_disposition : (t : Totals) → judge f ≡ accepted t → ¬ IsNumber k t.dispositions → ChangeFault f k new (of_call 15)
  -- zero, or more than thirteen digits hold
  not_an_amount : (t : Totals) → judge f ≡ accepted t → IsNumber k t.dispositions → ¬ IsAmount new → ChangeFault f k new (of_call 16)
  -- the new total is the old one less the old amount, plus the new one
  total_too_large :
      (t : Totals) (s : Location) → judge f ≡ accepted t → find f k ≡ accepted s → IsAmount new → most_cents < t.cents - s.cents + new
      → ChangeFault f k new (of_call 17)

abbrev pub ChangeRefused : Type 0
ChangeRefused = (f : List ℕ) (k new : ℕ) (x : Refusal) → ((change f k new).answer ≡ refused x) ↔ ChangeFault f k new x

-- and of a withdrawal
pub data WithdrawFault (f : List ℕ) (k : ℕ) : Refusal → Type 0 where
  not_read : (x : Refusal) → judge f ≡ refused x → WithdrawFault f k x
  no_disposition : (t : Totals) → judge f ≡ accepted t → ¬ IsNumber k t.dispositions → WithdrawFault f k (of_call 15)
  only_one : (t : Totals) → judge f ≡ accepted t → t.dispositions ≡ 1 → k ≡ 1 → WithdrawFault f k (of_call 18)

abbrev pub WithdrawRefused : Type 0
WithdrawRefused = (f : List ℕ) (k : ℕ) (x : Refusal) → ((withdraw f k).answer ≡ refused x) ↔ WithdrawFault f k x

-- a refused call leaves every byte as it was, and the next is lent as many
abbrev pub Untouched : List ℕ → Amended → Type 0
Untouched f a = (a.bytes ≡ f) × (a.size ≡ length f)

abbrev pub RefusedUntouched : Type 0
RefusedUntouched =
    (f : List ℕ) (k : ℕ) (x : Refusal)
    → ((new : ℕ) → (change f k new).answer ≡ refused x → Untouched f (change f k new))
    × ((withdraw f k).answer ≡ refused x → Untouched f (withdraw f k))

-- the flow that an amendment leaves: as many of the bytes as its length says
abbrev pub flow_left : Amended → List ℕ
flow_left a = take a.size a.bytes

-- an accepted amendment answers with the totals of the flow left, which the reader accepts and which has the company code of the flow
-- before, whichever request goes, since all had the same (document 02, E4); after that flow the memory is blank
pub record LeavesAccepted (f : List ℕ) (a : Amended) (t : Totals) : Type 0 where
  pub read : judge (flow_left a) ≡ accepted t
  pub within : a.size ≤ length f
  pub memory : a.bytes ≡ flow_left a ++ replicate (length f - a.size) 32
  pub company : company_of (records_of (flow_left a)) ≡ company_of (records_of f)

abbrev pub ChangeLeaves : Type 0
ChangeLeaves = (f : List ℕ) (k new : ℕ) (t : Totals) → (change f k new).answer ≡ accepted t → LeavesAccepted f (change f k new) t

abbrev pub WithdrawLeaves : Type 0
WithdrawLeaves = (f : List ℕ) (k : ℕ) (t : Totals) → (withdraw f k).answer ≡ accepted t → LeavesAccepted f (withdraw f k) t

-- index i of a flow lies in positions of record r
pub record Lies (i r : ℕ) (s : Span) : Type 0 where
  pub starts : 120 * (r - 1) + (first_of s - 1) ≤ i
  pub ends : i < 120 * (r - 1) + last_of s

-- "only 34-46 of that record 14 and 53-67 of EF may differ", of a recall 68-82, where the 14 is record `first` and the flow has the totals t, so
-- that EF is its last record
pub record AmountOnly (f left : List ℕ) (t : Totals) (first : ℕ) : Type 0 where
  pub sizes : length left ≡ length f
  pub bytes : (i : ℕ) → ¬ Lies i first amount_span → ¬ Lies i t.records (total_span t.kind) → get_or left i 0 ≡ get_or f i 0

abbrev pub ChangeTouches : Type 0
ChangeTouches =
    (f : List ℕ) (k new : ℕ) (t : Totals) (s : Location) → judge f ≡ accepted t → find f k ≡ accepted s
    → AmountOnly f (change f k new).bytes t s.first

-- position p lies outside of spans
abbrev pub Outside : List Span → ℕ → Type 0
Outside [] p = Unit
Outside ((a to e) ∷ ss) p = (¬ ((a ≤ p) × (p ≤ e))) × Outside ss p

-- two records have the same bytes but at the spans
pub record SameBut (ss : List Span) (rec other : List ℕ) : Type 0 where
  pub sizes : length rec ≡ length other
  pub bytes : (p : ℕ) → 1 ≤ p → Outside ss p → byte_at p rec ≡ byte_at p other

-- "its records go, later ones move up in order; among those kept only 4-10 of the later dispositions and 46-52, 53-67, 83-89 of EF may
-- differ", of a recall 68-82 for 53-67: each record of the flow left beside the one that it came from, in a flow with the totals t from which m
-- records go, the record `first` the first of them
pub record Moved (f left : List ℕ) (t : Totals) (first m : ℕ) : Type 0 where
  pub before : (r : ℕ) → 1 ≤ r → r < first → record_at (r - 1) left ≡ record_at (r - 1) f
  pub after : (r : ℕ) → first ≤ r → r < t.records - m → SameBut ((4 to 10) ∷ []) (record_at (r - 1) left) (record_at (r + m - 1) f)
  pub trailer : SameBut ((46 to 52) ∷ total_span t.kind ∷ (83 to 89) ∷ []) (record_at (t.records - m - 1) left) (record_at (t.records - 1) f)

abbrev pub WithdrawTouches : Type 0
WithdrawTouches =
    (f : List ℕ) (k : ℕ) (t left : Totals) (s : Location) → judge f ≡ accepted t → find f k ≡ accepted s → (withdraw f k).answer ≡ accepted left
    → Moved f (flow_left (withdraw f k)) t s.first s.records × (left.records ≡ t.records - s.records)

-- what an answer, a length and bytes stand for on paper determines them
abbrev pub AmendedDetermined : Type 0
AmendedDetermined =
    (r s : Result Totals Code-Refusal) (size size' : ℕ) (bytes bytes' : List ℕ) → amended r size bytes ≡ amended s size' bytes'
    → (r ≡ s) × (size ≡ size') × (bytes ≡ bytes')

-- of a withdrawal, whatever lengths were lent
abbrev pub WithdrawnDetermined : Type 0
WithdrawnDetermined =
    (r s : Result Withdrawn Code-Refusal) (lent lent' : ℕ) (bytes bytes' : List ℕ) → withdrawn_amended lent r bytes ≡ withdrawn_amended lent' s bytes'
    → (r ≡ s) × (bytes ≡ bytes')
