-- The worked examples, by computation. Assumes nothing.
use mathlib.Core.List.{flatten}
use mathlib.Core.Path.{refl}
use Rattle.fields.specs.Bytes.{is_equal}
use Rattle.fields.specs.Calendar.{is_leap, days_in, is_day}
use Rattle.fields.specs.Digits.{number_from, digits}
use Rattle.records.specs.Bytes.{bad_from}
use Rattle.records.specs.Checks.{checks}
use Rattle.records.specs.RecordVerdict.{first_fault}
use Rattle.records.specs.Judge.{judge_as}
use Rattle.records.specs.FlowKinds.{kind_among}
use Rattle.flow.specs.ExactTotals.{kind_from}
use Rattle.flow.specs.Judge.{walk_from, judge}
use Rattle.flow.specs.Records.{cut}
use Rattle.flow.specs.Order.{among}
use Rattle.flow.specs.Walking.{judge_typed, judge_record}
use Rattle.list.specs.Encode.{fill, body_placed, encode_item, encode_trailer, encode_from, last_header, list_dispositions, list_cents}
use Rattle.list.specs.Examples.{ListExamples}
use Rattle.list.specs.Items.{items_from}
use Rattle.list.specs.ReadBack.{judge_room}
use Rattle.list.specs.Table.{first_row}
use Rattle.list.specs.Write.{judge_items, judge_list}

pub examples : ListExamples
unfolding kind_among kind_from judge walk_from cut judge_record judge_typed among judge_as first_fault checks bad_from is_equal number_from digits is_day days_in is_leap flatten fill body_placed encode_item encode_trailer encode_from last_header list_dispositions list_cents items_from judge_room first_row judge_items judge_list
examples =
    record {
      bodies = refl;
      trailer = refl;
      two_rents_lem = refl;
      one-rent = refl;
      one-rent-encoded = refl;
      written = refl;
      one-short = refl;
      empty = refl;
      empty-short = refl;
      header_alone = refl;
      no_header = refl;
      second-header = refl;
      unknown = refl;
      cut_short = refl;
      read_back = refl;
      canonical = refl;
      room = refl;
      no_room = refl;
      refused_first = refl;
      recall-trailer = (refl, refl);
      two_recalls_lem = refl;
      recalls_written = refl;
      recalls_read_back = refl;
      recalls_canonical = refl;
      other-header = refl;
      no_14 = refl;
      blanks-written = refl;
      nothing_written = refl;
    }
