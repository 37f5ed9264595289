-- The ledger of demand 3 (document 01, "Questions and changes"; its word is "sheet"): a request list that is fed with the calls alone. It
-- knows items and calls, and no flow: it shares with reading one the shape of an answer alone. Assumes nothing.
use Rattle.std.specs.Prelude.{ℕ, ◌-◌, ◌*◌, Bool, cond, ◌&&◌, leb, ltb, take, drop, get_or}
use mathlib.Core.List.{List, [], ◌∷◌, ◌++◌, flatten}
use Rattle.sequences.specs.Groups.{lead, groups}
use Rattle.sequences.specs.Part.{put}
use Rattle.fields.specs.Amount.{is_amount}
use Rattle.fields.specs.Digits.{digits}
use Rattle.records.specs.Amount.{amount_span}
use Rattle.records.specs.Field.{width}
use Rattle.records.specs.Limits.{most_cents}
use Rattle.flow.specs.Verdict.{of_call}
use Rattle.flow.specs.Verdict.{Refusal}
use Rattle.flow.specs.declared.answer.Totals.{Totals}
use Rattle.list.specs.Encode.{amount_index, list_dispositions, list_cents, list_totals}
use Rattle.list.specs.Items.{Item, item, is_d}

-- a call: which of the two amendments it is, its number k, and the new amount of a change
pub data Call : Type 0 where
  change_of : ℕ → ℕ → Call
  withdrawal_of : ℕ → Call

-- what a call is answered: accepted, with the totals, and a withdrawal with the new length too; or refused
pub data Reply : Type 0 where
  change-accepted : Totals → Reply
  withdrawal_accepted : Totals → ℕ → Reply
  call_refused : Refusal → Reply

-- "disposition k is the k-th D with the items after it, up to the next D or the end"; before the first D stands the item of the header
abbrev pub leading : List Item → List Item
leading is = lead is_d is

abbrev pub dispositions : List Item → List (List Item)
dispositions is = groups is_d is

-- "34-46 of the k-th D become the new amount, zeros in front"
abbrev pub repriced : ℕ → Item → Item
repriced new it = item it.kind (put amount_index (digits (width amount_span) new) it.body)

abbrev pub first_repriced : ℕ → List Item → List Item
first_repriced new [] = []
first_repriced new (it ∷ is) = repriced new it ∷ is

unfoldable pub with_amount : ℕ → ℕ → List Item → List Item
with_amount k new is =
    let ds = dispositions is in
    leading is ++ flatten (take (k - 1) ds ++ (first_repriced new (get_or ds (k - 1) []) ∷ drop k ds))

-- "the items of disposition k go"
unfoldable pub without_disposition : ℕ → List Item → List Item
without_disposition k is =
    let ds = dispositions is in
    leading is ++ flatten (take (k - 1) ds ++ drop k ds)

-- the ledger after a call: what the call is answered, and the list that is left
pub record Entry : Type 0 where
  pub reply : Reply
  pub items : List Item

-- "a refused call answers the refusal's number with 0, 0 and leaves the sheet as it was"
abbrev pub refused_entry : ℕ → List Item → Entry
refused_entry n is = record { reply = call_refused (of_call n); items = is }

-- there is a disposition k
abbrev pub has : ℕ → List Item → Bool
has k is = leb 1 k && leb k (list_dispositions is)

-- "refused by 15, 16, 17, the first that fits by the table", by 16 for a change to 0 too (document 02, E5); "an accepted one answers, of the
-- sheet it leaves, the count, the total and the number of items + 1"
abbrev pub change_leaving : List Item → List Item → Entry
change_leaving left is =
    cond (leb (list_cents left) most_cents)
    (record { reply = change-accepted (list_totals left); items = left })
    (refused_entry 17 is)

unfoldable pub change_on : ℕ → ℕ → List Item → Entry
change_on k new is = cond (has k is) (cond (is_amount new) (change_leaving (with_amount k new is) is) (refused_entry 16 is)) (refused_entry 15 is)

-- "refused by 15, 18 likewise"; "a withdrawal also 120 times that last number, the new length"
abbrev pub withdraw_leaving : List Item → Entry
withdraw_leaving left = record { reply = withdrawal_accepted (list_totals left) (120 * (list_totals left).records); items = left }

unfoldable pub withdraw_on : ℕ → List Item → Entry
withdraw_on k is = cond (has k is) (cond (ltb 1 (list_dispositions is)) (withdraw_leaving (without_disposition k is)) (refused_entry 18 is)) (refused_entry 15 is)

abbrev pub entry : Call → List Item → Entry
entry (change_of k new) is = change_on k new is
entry (withdrawal_of k) is = withdraw_on k is

-- the list on the ledger after a list of calls, and what each was answered
unfoldable pub list_after : List Call → List Item → List Item
list_after [] is = is
list_after (c ∷ cs) is = list_after cs (entry c is).items

unfoldable pub replies_on : List Call → List Item → List Reply
replies_on [] is = []
replies_on (c ∷ cs) is = (entry c is).reply ∷ replies_on cs (entry c is).items
