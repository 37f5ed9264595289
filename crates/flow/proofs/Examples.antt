-- The worked examples, by computation. Assumes nothing.
use mathlib.Core.List.{flatten}
use mathlib.Core.Path.{refl}
use Rattle.sequences.specs.Groups.{lead, groups}
use Rattle.fields.specs.Bytes.{is_equal}
use Rattle.fields.specs.Calendar.{is_leap, days_in, is_day}
use Rattle.fields.specs.Digits.{number_from}
use Rattle.records.specs.Bytes.{bad_from}
use Rattle.records.specs.Checks.{checks}
use Rattle.records.specs.FlowKinds.{kind_among}
use Rattle.records.specs.RecordVerdict.{first_fault}
use Rattle.records.specs.Judge.{judge_as}
use Rattle.flow.specs.Examples.{FlowExamples}
use Rattle.flow.specs.Find.{find}
use Rattle.flow.specs.Judge.{walk_from, judge}
use Rattle.flow.specs.Records.{cut}
use Rattle.flow.specs.Order.{among}
use Rattle.flow.specs.Walking.{judge_typed, judge_record}

pub examples : FlowExamples
unfolding kind_among judge walk_from cut judge_record judge_typed among judge_as first_fault checks bad_from is_equal number_from is_day days_in is_leap find groups lead flatten
examples =
    record {
      two_rents_lem = refl;
      empty = refl;
      header_alone = refl;
      no_disposition = refl;
      five_further = refl;
      six_further = refl;
      first_rent = refl;
      second-rent = refl;
      no_rent_0 = refl;
      no_rent_3 = refl;
      none_in_empty = refl;
      second-part = refl;
      second_offset = refl;
      no_offset = refl;
      two_recalls_lem = refl;
      recall_after_request = refl;
      request_after_recall = refl;
      no_kind_first = refl;
      no_kind_second = refl;
      recall_with_minus = refl;
      request_with_plus = refl;
      recall-asked = refl;
      recall_nowhere = refl;
      recall_twice = refl;
      request_recalled = refl;
      recall_no_digits = refl;
      no_codes_lem = refl;
      code_after_blanks = refl;
      blanks_after_code = refl;
      blanks_recalled = refl;
      other_code = refl;
      code_first_byte = refl;
      code_last_byte = refl;
      code_moved = refl;
      code_after_cab = refl;
      code_before_tipo = refl;
      nothing-asked = refl;
      nothing_first = refl;
      nothing_signed = refl;
      nothing_recalled = refl;
      one_cent = refl;
      nothing_no_kind = refl;
      nothing_no_digits = refl;
    }
