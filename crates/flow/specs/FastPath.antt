-- For the contracts of private functions: the fast path of the reader, which changes no answer. Assumes nothing.
use Rattle.std.specs.Prelude.{ℕ, ◌-◌, ◌/◌, min, ◌≤◌, Bool, true, ◌&&◌, List, ◌≡◌, length}
use Rattle.fields.specs.Digits.{is_digits, number}
use Rattle.records.specs.Context.{Header}
use Rattle.records.specs.Field.{field}
use Rattle.records.specs.Limits.{count_limit}
use Rattle.flow.specs.Judge.{walk_from}
use Rattle.flow.specs.Order.{permitted, is_due, all_go_on, among}
use Rattle.flow.specs.Records.{record_at, records_from}
use Rattle.flow.specs.Verdict.{Verdict}
use Rattle.flow.specs.declared.answer.Totals.{Totals}
use Rattle.flow.specs.declared.order.Due.{Due}
use Rattle.flow.specs.declared.order.Place.{Place}
use Rattle.flow.specs.declared.walk.Walk.{Walk}
use Rattle.records.specs.declared.kind.RecordKind.{RecordKind}
use Rattle.std.specs.Prelude.{Option, Some, None}

-- a disposition goes on here: a record is due, and whichever may come goes on with it
abbrev pub is_inside : Due → Bool
is_inside due = is_due (permitted due) && all_go_on (permitted due)

-- what is known of a record whose kind was found where a disposition goes on
abbrev pub Inside : Due → List ℕ → Option RecordKind → Type 0
Inside due rec None = Unit
Inside due rec (Some k) = (is_inside due ≡ true) × (among (permitted due) rec ≡ Some k)

-- inside a disposition, 4-10 of the record before are digits and give its number
abbrev pub NumberBefore : Walk → List ℕ → Type 0
NumberBefore w before = is_inside w.place.due ≡ true → (is_digits (field 4 10 before) ≡ true) × (number (field 4 10 before) ≡ min w.dispositions count_limit)

-- the same kind and counts at another place
abbrev pub at_place : Walk → Place → Walk
at_place w p = record { place = p; kind = w.kind; dispositions = w.dispositions; cents = w.cents }

-- the records from one index up to another were passed over: the walk keeps its kind and its counts, and whatever they are, what is left
-- decides as it did
pub record PassedOver (f : List ℕ) (from : ℕ) (w : Walk) (to : ℕ) (after : Walk) : Type 0 where
  pub on : from ≤ to
  pub within : to ≤ length f / 120
  pub counts : after ≡ at_place w after.place
  pub due : is_due (permitted after.place.due) ≡ is_due (permitted w.place.due)
  pub left :
      (end : Walk → ℕ → Verdict Totals) (header : Header) (company : List ℕ) (v : Walk) → NumberBefore (at_place v w.place) (record_at (from - 1) f)
      → walk_from end header (at_place v w.place) company from (records_from from f) ≡ walk_from end header (at_place v after.place) company to (records_from to f)
