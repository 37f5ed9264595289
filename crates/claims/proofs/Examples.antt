-- The ten worked examples: those of the field rules, of reading and of writing as they were computed there, and those of the amendments by
-- computation. Assumes nothing.
use mathlib.Core.List.{flatten}
use mathlib.Core.Path.{refl}
use Rattle.sequences.specs.Every.{every}
use Rattle.sequences.specs.Groups.{lead, groups}
use Rattle.fields.specs.Bytes.{is_equal}
use Rattle.fields.specs.Calendar.{is_leap, days_in, is_day}
use Rattle.fields.specs.Digits.{number_from, digits}
use Rattle.fields.proofs.Examples.{examples as fields}
use Rattle.records.specs.Bytes.{bad_from}
use Rattle.records.specs.Checks.{is_listed, checks}
use Rattle.records.specs.RecordVerdict.{first_fault}
use Rattle.records.specs.Judge.{judge_as}
use Rattle.records.specs.FlowKinds.{kind_among}
use Rattle.flow.specs.Find.{find, find_with_totals}
use Rattle.flow.specs.Judge.{walk_from, judge}
use Rattle.flow.specs.Records.{cut}
use Rattle.flow.specs.Order.{among}
use Rattle.flow.specs.Walking.{judge_typed, judge_record}
use Rattle.flow.proofs.Examples.{examples as flow}
use Rattle.grammar.specs.Fault.{company_of}
use Rattle.list.specs.Encode.{fill, body_placed, encode_item, encode_trailer, encode_from, last_header, list_dispositions, list_cents}
use Rattle.list.specs.Items.{items_from}
use Rattle.list.specs.Table.{first_row}
use Rattle.list.proofs.Examples.{examples as list}
use Rattle.amend.specs.Change.{change}
use Rattle.amend.specs.Withdraw.{numbered_from, withdraw}
use Rattle.claims.specs.Examples.{Examples, RecallExamples, CompanyExamples, NothingExamples, LedgerExample}
use Rattle.claims.specs.Ledger.{with_amount, without_disposition, change_on, withdraw_on, list_after, replies_on}

pub examples : Examples
unfolding kind_among judge walk_from cut judge_record judge_typed among judge_as first_fault checks bad_from is_equal number_from digits is_day days_in is_leap find groups lead flatten find_with_totals fill body_placed encode_item encode_trailer encode_from last_header list_dispositions list_cents items_from first_row change numbered_from withdraw
examples =
    record {
      one = (list.trailer, list.two_rents_lem);
      two = (refl, refl, refl);
      three = (refl, refl, refl, refl);
      four = flow.empty;
      five = flow.header_alone;
      six = flow.no_disposition;
      seven = (fields.leap_day, fields.no_leap_day);
      eight = flow.six_further;
      nine = (list.one-rent, list.one-rent-encoded);
      ten = (refl, (refl, refl));
    }

pub recall-examples : RecallExamples
unfolding kind_among judge walk_from cut judge_record judge_typed among judge_as first_fault checks bad_from is_equal number_from digits is_day days_in is_leap find groups lead flatten find_with_totals last_header list_dispositions list_cents items_from first_row change numbered_from withdraw with_amount without_disposition change_on withdraw_on list_after replies_on
recall-examples =
    record {
      encoded = list.two_recalls_lem;
      trailer = list.recall-trailer;
      read = flow.two_recalls_lem;
      changed = (refl, refl, refl);
      withdrawn = (refl, refl, refl);
      answered = refl;
      mixed = flow.recall_after_request;
      no_kind = (flow.no_kind_first, flow.no_kind_second);
      wrong_sign = flow.recall_with_minus;
    }

pub company-examples : CompanyExamples
unfolding kind_among judge walk_from cut judge_record judge_typed among judge_as first_fault checks bad_from is_equal number_from digits is_day days_in is_leap find groups lead flatten find_with_totals change numbered_from withdraw company_of
company-examples =
    record {
      read = (flow.two_rents_lem, flow.no_codes_lem);
      code_after_blanks = flow.code_after_blanks;
      blanks_after_code = flow.blanks_after_code;
      written = list.blanks-written;
      withdrawn = (refl, refl);
      blanks-withdrawn = (refl, refl);
      not-amended = (refl, refl);
    }

pub nothing-examples : NothingExamples
unfolding kind_among judge walk_from cut judge_record judge_typed among judge_as first_fault checks bad_from is_equal number_from digits is_day days_in is_leap find groups lead flatten find_with_totals last_header list_dispositions list_cents items_from first_row change withdraw with_amount change_on list_after replies_on
nothing-examples =
    record {
      field = (fields.zero-amount, fields.least-amount);
      read = (flow.nothing-asked, flow.nothing_signed);
      written = list.nothing_written;
      changed = (refl, (refl, refl), refl);
      least = (refl, refl);
      not-amended = (refl, refl);
      answered = refl;
    }

pub ledger_example : LedgerExample
unfolding last_header number_from digits groups lead flatten list_dispositions list_cents items_from first_row is_equal with_amount without_disposition change_on withdraw_on list_after replies_on
ledger_example = record { answered = refl; left = refl }
