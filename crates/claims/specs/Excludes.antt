-- For each wrong program that document 01 names ("What the promises must exclude", "Errors that look right"), and for those of document 02's
-- requests, the demand that it breaks, as a statement about any program that meets the demand. A program is here what it answers and leaves,
-- as a function of what it is given. Assumes nothing.
use Rattle.std.specs.Prelude.{ℕ, ◌*◌, ◌≤◌, ◌<◌, true, List, [], ◌∷◌, ◌++◌, map, ◌↔◌, ◌≡◌, length, take, drop, get_or}
use Prim.Native.String.{String}
use Rattle.sequences.specs.Part.{put}
use Rattle.sequences.specs.Text.{text}
use Rattle.fields.specs.Digits.{number}
use Rattle.records.specs.Amount.{amount_in}
use Rattle.records.specs.Company.{company_in}
use Rattle.records.specs.Field.{field}
use Rattle.records.specs.Kinds.{is_opening}
use Rattle.records.specs.declared.flow_kind.FlowKind.TheVariants.{Requests}
use Rattle.flow.specs.Examples.{flow_of, header_im, first_opened, further59, first_closed, with_further, two_rents, two_recalls, coded_at, no_codes, asking_at, nothing_asked, one_cent_asked}
use Rattle.flow.specs.Judge.{judge}
use Rattle.flow.specs.Output.{Output, LeftAlone}
use Rattle.flow.specs.Records.{record_at, records_of}
use Rattle.flow.specs.ExactTotals.{opening_count, amount_sum, kind_of}
use Rattle.flow.specs.Verdict.{Verdict, accepted, refused, refusal, of_call}
use Rattle.flow.specs.Verdict.{Refusal}
use Rattle.flow.specs.declared.answer.Totals.{Totals}
use Rattle.grammar.specs.Fault.{FaultAfter, FirstFault}
use Rattle.grammar.specs.Grammar.{Grammar}
use Rattle.list.specs.Encode.{encode}
use Rattle.list.specs.Examples.{header_item, second_items, two_rent_list}
use Rattle.list.specs.Items.{Item, items_in}
use Rattle.list.specs.Write.{judge_items, judge_list, write}
use Rattle.amend.specs.Amended.{Amended}
use Rattle.amend.specs.Change.{change}
use Rattle.amend.specs.Laws.{ChangeFault, WithdrawFault}
use Rattle.amend.specs.Withdraw.{withdraw}
use Rattle.evenings.specs.Account.{Line, Keep, Drop, Add}
use Rattle.evenings.specs.Compare.{account_between}
use Rattle.evenings.specs.Examples.{swapped_rents}
use Rattle.evenings.specs.Laws.{Meant}
use Rattle.evenings.specs.Requests.{requests_of}
use Rattle.claims.specs.Demand3.{KeepsLedger}
use Rattle.claims.specs.Ledger.{Call, Reply, change_of, withdrawal_of, call_refused}
use Rattle.claims.specs.Run.{Memory, holding, flow_in, run, replies}

-- a reader, and that it meets demand 2, or demand 1
abbrev pub Reader : Type 0
Reader = List ℕ → Verdict Totals

abbrev pub AcceptsExactly : Reader → Type 0
AcceptsExactly read = (f : List ℕ) (t : Totals) → (read f ≡ accepted t) ↔ Grammar f t

abbrev pub RefusesFirst : Reader → Type 0
RefusesFirst read = (f : List ℕ) (x : Refusal) → (read f ≡ refused x) ↔ FirstFault f x

abbrev pub Refuses : Verdict Totals → Type 0
Refuses v = (x : Refusal) × (v ≡ refused x)

-- a reader that reports the lowest number: no fault of any record, wherever it stands, has a lower one than the refusal
abbrev pub LowestNumber : Reader → Type 0
LowestNumber read =
    (f : List ℕ) (x : Refusal) → read f ≡ refused x → (before : List (List ℕ)) (rec : List ℕ) (after : List (List ℕ)) (m q : ℕ)
    → records_of f ≡ before ++ (rec ∷ after) → FaultAfter f before rec m q → x.number ≤ m

-- two records 14 of a flow differ in something: in the causale, where requests and recalls are mixed, or in the company code
pub record Mixed (something : List ℕ → List ℕ) (f : List ℕ) : Type 0 where
  pub one : ℕ
  pub other : ℕ
  pub there : (one < length (records_of f)) × (other < length (records_of f))
  pub openings : (is_opening (get_or (records_of f) one []) ≡ true) × (is_opening (get_or (records_of f) other []) ≡ true)
  pub differ : ¬ (something (get_or (records_of f) one []) ≡ something (get_or (records_of f) other []))

-- a request for nothing: the amount of one of its records 14 is zero
pub record AsksForNothing (f : List ℕ) : Type 0 where
  pub one : ℕ
  pub there : one < length (records_of f)
  pub opening : is_opening (get_or (records_of f) one []) ≡ true
  pub nothing : number (amount_in (get_or (records_of f) one [])) ≡ 0

-- a writer, and that it meets demand 1: a refused call leaves the output as it was
abbrev pub Writer : Type 0
Writer = List ℕ → List ℕ → Output Totals

abbrev pub RefusesUntouched : Writer → Type 0
RefusesUntouched writer = (list out : List ℕ) (x : Refusal) → judge_list list (length out) ≡ refused x → LeftAlone (writer list out) out

-- the two-rent list with a byte at 94 of its last record that is neither blank nor P nor B
abbrev pub last_wrong : List ℕ
last_wrong = put 1210 (text "X") two_rent_list

-- an amendment's answers, and that it meets demand 1: a number is given only for its own fault
abbrev pub ChangesFaithfully : (List ℕ → ℕ → ℕ → Amended) → Type 0
ChangesFaithfully amend = (f : List ℕ) (k new : ℕ) (x : Refusal) → (amend f k new).answer ≡ refused x → ChangeFault f k new x

abbrev pub WithdrawsFaithfully : (List ℕ → ℕ → Amended) → Type 0
WithdrawsFaithfully amend = (f : List ℕ) (k : ℕ) (x : Refusal) → (amend f k).answer ≡ refused x → WithdrawFault f k x

-- what serves a list of calls on a flow, whatever it keeps in between; and that it meets demand 3
pub record Served : Type 0 where
  pub after : Memory
  pub answers : List Reply

abbrev pub Service : Type 0
Service = List Call → List ℕ → Served

abbrev pub Serves : Service → Type 0
Serves serve =
    (f : List ℕ) (t : Totals) → judge f ≡ accepted t → (calls : List Call) → KeepsLedger f calls (serve calls f).after (serve calls f).answers

-- a comparison of two flows as an account, and one that gives the account that is meant
abbrev pub Comparer : Type 0
Comparer = List ℕ → List ℕ → List Line

abbrev pub ComparesRight : Comparer → Type 0
ComparesRight compare = (old new : List ℕ) (t u : Totals) → judge old ≡ accepted t → judge new ≡ accepted u → Meant (requests_of old) (requests_of new) (compare old new)

-- an account that drops every request and adds every other
abbrev pub drops_all : Comparer
drops_all old new = map (λ (r : List Item). Drop) (requests_of old) ++ map (λ (r : List Item). Add) (requests_of new)

abbrev pub one_trailer : String
one_trailer = " EFAB12301234150326RENT-MARCH                00000010000000000450000000000000000000000009                        E      "

-- two flows of one request, with a 59 whose one byte differs
abbrev pub one_further : String → List ℕ
one_further further = flow_of ((header_im ∷ first_opened) ++ (further ∷ (drop 1 first_closed ++ (one_trailer ∷ []))))

abbrev pub other_further : String
other_further = " 590000001RETTA MARZO 2027                                                                                              "

-- the library meets each of these
abbrev pub library : Service
library calls f = record { after = run calls (holding f); answers = replies calls (holding f) }

pub record LibraryMeets : Type 0 where
  pub accepts_exactly : AcceptsExactly judge
  pub refuses_first : RefusesFirst judge
  pub refuses_untouched : RefusesUntouched write
  pub changes_faithfully : ChangesFaithfully change
  pub withdraws_faithfully : WithdrawsFaithfully withdraw
  pub serves : Serves library
  pub compares_right : ComparesRight account_between

-- and whatever meets them is none of the wrong programs
pub record Excludes : Type 0 where
  -- "a reader that refuses everything, or has one reply (demand 2: the two-rent flow and the empty one)"
  pub refuses_everything : (read : Reader) → AcceptsExactly read → ¬ ((f : List ℕ) → Refuses (read f))
  pub one-reply : (read : Reader) → AcceptsExactly read → ¬ ((v : Verdict Totals) × ((f : List ℕ) → read f ≡ v))
  -- "an amendment that always refuses (demand 1: a number is given only for its own fault in the table)"
  pub change_always_refuses : (amend : List ℕ → ℕ → ℕ → Amended) → ChangesFaithfully amend → ¬ ((f : List ℕ) (k new : ℕ) → Refuses (amend f k new).answer)
  pub withdraw_always_refuses : (amend : List ℕ → ℕ → Amended) → WithdrawsFaithfully amend → ¬ ((f : List ℕ) (k : ℕ) → Refuses (amend f k).answer)
  -- "one that touches nothing (demand 3: the list must have changed)"
  pub touches-nothing : (serve : Service) → Serves serve → ¬ ((calls : List Call) (f : List ℕ) → (serve calls f).after ≡ holding f)
  -- "one that serves the first amendment and fakes the rest (demand 3 speaks of every list of calls)": whatever it answers, the memory stays
  -- as the first call left it
  pub fakes_the_rest : (serve : Service) → Serves serve → ¬ ((call : Call) (calls : List Call) (f : List ℕ) → (serve (call ∷ calls) f).after ≡ (serve (call ∷ []) f).after)
  -- "made-up counts (demand 2: they equal the sums)"
  pub made_up_counts :
      (read : Reader) → AcceptsExactly read → (f : List ℕ) (t : Totals) → read f ≡ accepted t
      → (t.dispositions ≡ opening_count (records_of f)) × (t.cents ≡ amount_sum (records_of f)) × (t.records * 120 ≡ length f)
  -- The rest are the "errors that look right", in document 01's order. "Summing the trailer from the bytes as moved, so that a block copied
  -- twice agrees with itself": whatever its trailer says, the flow left by the withdrawal of the first rent never has two dispositions
  pub copied_twice : (serve : Service) → Serves serve → ¬ ((t : Totals) × (judge (flow_in (serve (withdrawal_of 1 ∷ []) two_rents).after) ≡ accepted t) × (t.dispositions ≡ 2))
  -- "moving records up from the wrong end, so that later records are overwritten before they are read": what is left is, byte for byte, what
  -- the header and the second rent encode
  pub moved_up : (serve : Service) → Serves serve → flow_in (serve (withdrawal_of 1 ∷ []) two_rents).after ≡ encode (items_in (flow_of (header_item ++ second_items)))
  -- "comparing 59 after 50 as a further 50: either kind excludes the other": 3 at the second of them
  pub further_mixed :
      (read : Reader) → RefusesFirst read
      → (read (with_further (take 1 first_closed ++ (further59 ∷ []))) ≡ refused (refusal 3 7 2)) × (read (with_further (further59 ∷ take 1 first_closed)) ≡ refused (refusal 3 7 2))
  -- "writing output before the last item has been judged, then refusing": the two-rent list whose last item alone breaks a rule
  pub written_early :
      (judge_items (items_in last_wrong) ≡ refused (refusal 6 15 94)) × ((writer : Writer) → RefusesUntouched writer → (out : List ℕ) → LeftAlone (writer last_wrong out) out)
  -- Document 02, E1. A reader that accepts a flow in which requests and recalls are mixed
  pub mixed-accepted : (read : Reader) → AcceptsExactly read → (f : List ℕ) → Mixed (field 29 33) f → ¬ ((t : Totals) × (read f ≡ accepted t))
  -- one that makes up the kind, or answers requests for every flow: the kind is that of the first record 14
  pub made_up_kind : (read : Reader) → AcceptsExactly read → (f : List ℕ) (t : Totals) → read f ≡ accepted t → t.kind ≡ kind_of (records_of f)
  pub always_requests : (read : Reader) → AcceptsExactly read → ¬ ((f : List ℕ) (t : Totals) → read f ≡ accepted t → t.kind ≡ Requests)
  -- an amendment that writes a recall's total at 53-67: after the second of two recalls has become 40000 cents, zeros stand there, and the total
  -- at 68-82
  pub recall-total_elsewhere :
      (serve : Service) → Serves serve → let trailer = record_at 15 (flow_in (serve (change_of 2 40000 ∷ []) two_recalls).after) in
      (field 53 67 trailer ≡ text "000000000000000") × (field 68 82 trailer ≡ text "000000000085000")
  -- Document 02, E4. A reader that accepts a flow in which one company code is blank and another is not, or in which any two differ
  pub codes-mixed-accepted : (read : Reader) → AcceptsExactly read → (f : List ℕ) → Mixed company_in f → ¬ ((t : Totals) × (read f ≡ accepted t))
  -- one that never refuses a blank code, or takes the first that is not blank for the first
  pub blanks_passed : (read : Reader) → RefusesFirst read → (read (coded_at 8 "     " two_rents) ≡ refused (refusal 11 9 92)) × (read (coded_at 8 "AB123" no_codes) ≡ refused (refusal 11 9 92))
  -- one that wants a code on every request
  pub blanks-refused : (read : Reader) → AcceptsExactly read → ¬ Refuses (read no_codes)
  -- Document 02, E5. A reader that accepts a flow with a request for nothing; and one that takes one cent for nothing
  pub nothing-accepted : (read : Reader) → AcceptsExactly read → (f : List ℕ) → AsksForNothing f → ¬ ((t : Totals) × (read f ≡ accepted t))
  pub cent_refused : (read : Reader) → AcceptsExactly read → ¬ Refuses (read one_cent_asked)
  -- one that gives 25 before 5: zeros with a blank after them are no digits
  pub zero-before-digits : (read : Reader) → RefusesFirst read → read (asking_at 8 "000000000000 " nothing_asked) ≡ refused (refusal 5 9 34)
  -- an amendment that lets a change to 0 through: it is refused by 16, and the flow stays as it was
  pub changed_to_nothing :
      (serve : Service) → Serves serve → let served = serve (change_of 2 0 ∷ []) two_rents in
      (served.answers ≡ call_refused (of_call 16) ∷ []) × (flow_in served.after ≡ two_rents)
  -- Document 02, E7. A comparison whose account drops all and adds all
  pub drops-all : (compare : Comparer) → ComparesRight compare → ¬ ((old new : List ℕ) → compare old new ≡ drops_all old new)
  -- one that keeps requests that differ in one byte of a 59
  pub keeps-other : (compare : Comparer) → ComparesRight compare → compare (one_further further59) (one_further other_further) ≡ Drop ∷ Add ∷ []
  -- one that is shortest and breaks the tie the other way: add, keep, drop is no longer than drop, keep, add
  pub other_tie : (compare : Comparer) → ComparesRight compare → compare two_rents swapped_rents ≡ Drop ∷ Keep ∷ Add ∷ []
  -- "reporting the lowest refusal number, where the lowest record is wanted"
  pub lowest_number : (read : Reader) → RefusesFirst read → ¬ LowestNumber read
