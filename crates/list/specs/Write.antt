-- Writing a list (document 01, "Our request list": 20; then 1 if items + 1 exceed 9,999,999; then 21; then the reader's refusal of the
-- encoded records other than EF, or 3 at EF's place if EF may not stand there; then 17). Assumes nothing.
use Rattle.std.specs.Prelude.{ℕ, suc, ◌*◌, cond, leb, length, take}
use mathlib.Core.List.{List, [], flatten}
use Rattle.records.specs.Context.{header_of}
use Rattle.records.specs.Limits.{most_cents, most_records}
use Rattle.flow.specs.Judge.{walk_totals, walk_from}
use Rattle.flow.specs.Order.{permitted, may_close}
use Rattle.flow.specs.Output.{Output, output}
use Rattle.flow.specs.Walking.{start}
use Rattle.flow.specs.Verdict.{Verdict, accepted, refused, refusal, of_call}
use Rattle.flow.specs.declared.answer.Totals.{Totals}
use Rattle.flow.specs.declared.walk.Walk.{Walk}
use Rattle.list.specs.Encode.{records_for, encode}
use Rattle.list.specs.Items.{Item, Parsed, items, faulty, parse, items_in}

-- the answer after the last of n records: 3 where EF may not follow, 17 where its fifteen digits do not hold the total
abbrev pub closed : Walk → ℕ → Verdict Totals
closed w n =
    cond (may_close (permitted w.place.due))
    (cond (leb w.cents most_cents) (accepted (walk_totals w (suc n))) (refused (of_call 17)))
    (refused (refusal 3 (suc n) 2))

-- the encoded records, judged as the reader judges them: the first 120 bytes are the header
unfoldable pub judge_items : List Item → Verdict Totals
judge_items is = walk_from closed (header_of (take 120 (flatten (records_for is)))) start [] 0 (records_for is)

-- 20; then 1; then 21; then the records
abbrev pub judge_parsed : Parsed → ℕ → Verdict Totals
judge_parsed (faulty n) room = refused (refusal 20 n 0)
judge_parsed (items is) room =
    cond (leb (suc (length is)) most_records) (cond (leb (120 * suc (length is)) room) (judge_items is) (refused (of_call 21))) (refused (of_call 1))

-- the answer to a list, with an output of so many bytes
unfoldable pub judge_list : List ℕ → ℕ → Verdict Totals
judge_list list room = judge_parsed (parse list) room

unfoldable pub write : List ℕ → List ℕ → Output Totals
write list out = output (judge_list list (length out)) (encode (items_in list)) out
