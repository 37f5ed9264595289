-- Every public function of the library meets its contract, by the proof that stands with the function, and none has a `requires`. Assumes
-- nothing.
use mathlib.Core.Path.{refl}
use Rattle.refusals.proofs.Reason.number.Met.{met as reason_number-met}
use Rattle.fields.proofs.read_digits.Met.{met as read_digits-met}
use Rattle.fields.proofs.write_digits.Met.{met as write_digits-met}
use Rattle.fields.proofs.read_amount.Met.{met as read_amount-met}
use Rattle.fields.proofs.is_amount.Met.{met as is_amount-met}
use Rattle.fields.proofs.read_date.Met.{met as read_date-met}
use Rattle.fields.proofs.all_blank.Met.{met as all_blank-met}
use Rattle.fields.proofs.equal.Met.{met as equal-met}
use Rattle.records.proofs.judge.Met.{met as record_judge-met}
use Rattle.records.proofs.passes_quick_test.Met.{met as passes_quick_test-met}
use Rattle.records.proofs.bad_byte.Met.{met as bad_byte-met}
use Rattle.records.proofs.field.Met.{met as field-met}
use Rattle.records.proofs.seven_digits.Met.{met as seven_digits-met}
use Rattle.records.proofs.write_number.Met.{met as write_number-met}
use Rattle.records.proofs.type_of.Met.{met as type_of-met}
use Rattle.records.proofs.has_type.Met.{met as has_type-met}
use Rattle.records.proofs.is_opening.Met.{met as is_opening-met}
use Rattle.records.proofs.amount.Met.{met as amount-met}
use Rattle.records.proofs.heads.Met.{met as heads-met}
use Rattle.records.proofs.opens.Met.{met as opens-met}
use Rattle.records.proofs.causale_of.Met.{met as causale_of-met}
use Rattle.records.proofs.sign_of.Met.{met as sign_of-met}
use Rattle.records.proofs.total_first.Met.{met as total_first-met}
use Rattle.records.proofs.total_last.Met.{met as total_last-met}
use Rattle.records.proofs.total_at.Met.{met as total_at-met}
use Rattle.records.proofs.kind_in.Met.{met as kind_in-met}
use Rattle.records.proofs.or_requests.Met.{met as or_requests-met}
use Rattle.flow.proofs.read.Met.{met as read-met}
use Rattle.flow.proofs.first_company.Met.{met as first_company-met}
use Rattle.flow.proofs.walk.Walk.start.Met.{met as walk_start-met}
use Rattle.flow.proofs.walk.Walk.judge.Met.{met as walk_judge-met}
use Rattle.flow.proofs.walk.Walk.next.Met.{met as walk_next-met}
use Rattle.flow.proofs.walk.Walk.complete.Met.{met as walk_complete-met}
use Rattle.flow.proofs.walk.Walk.may_close.Met.{met as walk_may_close-met}
use Rattle.flow.proofs.walk.Walk.totals.Met.{met as walk_totals-met}
use Rattle.flow.proofs.find.Met.{met as find-met}
use Rattle.flow.proofs.disposition.Met.{met as disposition-met}
use Rattle.flow.proofs.find_with_totals.Met.{met as find_with_totals-met}
use Rattle.flow.proofs.next_opening.Met.{met as next_opening-met}
use Rattle.flow.proofs.as_count.Met.{met as as_count-met}
use Rattle.flow.proofs.as_index.Met.{met as as_index-met}
use Rattle.flow.proofs.refusal_of_call.Met.{met as refusal_of_call-met}
use Rattle.flow.proofs.refused_call.Met.{met as refused_call-met}
use Rattle.list.proofs.write.Met.{met as write-met}
use Rattle.list.proofs.read_back.Met.{met as read_back-met}
use Rattle.list.proofs.carries_same.Met.{met as carries_same-met}
use Rattle.amend.proofs.change.Met.{met as change-met}
use Rattle.amend.proofs.withdraw.Met.{met as withdraw-met}
use Rattle.evenings.proofs.compare.Met.{met as compare-met}
use Rattle.evenings.proofs.find_line.Met.{met as find_line-met}
use Rattle.evenings.proofs.line.Met.{met as line-met}
use Rattle.capi.proofs.mav_digits.Met.{met as mav_digits-met}
use Rattle.capi.proofs.mav_amount.Met.{met as mav_amount-met}
use Rattle.capi.proofs.mav_date.Met.{met as mav_date-met}
use Rattle.capi.proofs.mav_read.Met.{met as mav_read-met}
use Rattle.capi.proofs.mav_find.Met.{met as mav_find-met}
use Rattle.capi.proofs.mav_write.Met.{met as mav_write-met}
use Rattle.capi.proofs.mav_list.Met.{met as mav_list-met}
use Rattle.capi.proofs.mav_change.Met.{met as mav_change-met}
use Rattle.capi.proofs.mav_withdraw.Met.{met as mav_withdraw-met}
use Rattle.capi.proofs.mav_compare.Met.{met as mav_compare-met}
use Rattle.capi.proofs.mav_compare_line.Met.{met as mav_compare_line-met}
use Rattle.claims.specs.EntryPoints.{EntryPoints}

pub entry_points : EntryPoints
entry_points =
    record {
      reason_number = (λ M. reason_number-met, λ κs a g w. refl);
      read_digits = (λ M. read_digits-met, λ κs a g w. refl);
      write_digits = (λ M. write_digits-met, λ κs a g w. refl);
      read_amount = (λ M. read_amount-met, λ κs a g w. refl);
      is_amount = (λ M. is_amount-met, λ κs a g w. refl);
      read_date = (λ M. read_date-met, λ κs a g w. refl);
      all_blank = (λ M. all_blank-met, λ κs a g w. refl);
      equal = (λ M. equal-met, λ κs a g w. refl);
      record_judge = (λ M. record_judge-met, λ κs a g w. refl);
      passes_quick_test = (λ M. passes_quick_test-met, λ κs a g w. refl);
      bad_byte = (λ M. bad_byte-met, λ κs a g w. refl);
      field = (λ M. field-met, λ κs a g w. refl);
      seven_digits = (λ M. seven_digits-met, λ κs a g w. refl);
      write_number = (λ M. write_number-met, λ κs a g w. refl);
      type_of = (λ M. type_of-met, λ κs a g w. refl);
      has_type = (λ M. has_type-met, λ κs a g w. refl);
      is_opening = (λ M. is_opening-met, λ κs a g w. refl);
      amount = (λ M. amount-met, λ κs a g w. refl);
      heads = (λ M. heads-met, λ κs a g w. refl);
      opens = (λ M. opens-met, λ κs a g w. refl);
      causale_of = (λ M. causale_of-met, λ κs a g w. refl);
      sign_of = (λ M. sign_of-met, λ κs a g w. refl);
      total_first = (λ M. total_first-met, λ κs a g w. refl);
      total_last = (λ M. total_last-met, λ κs a g w. refl);
      total_at = (λ M. total_at-met, λ κs a g w. refl);
      kind_in = (λ M. kind_in-met, λ κs a g w. refl);
      or_requests = (λ M. or_requests-met, λ κs a g w. refl);
      read = (λ M. read-met, λ κs a g w. refl);
      first_company = (λ M. first_company-met, λ κs a g w. refl);
      walk_start = (λ M. walk_start-met, λ κs a g w. refl);
      walk_judge = (λ M. walk_judge-met, λ κs a g w. refl);
      walk_next = (λ M. walk_next-met, λ κs a g w. refl);
      walk_complete = (λ M. walk_complete-met, λ κs a g w. refl);
      walk_may_close = (λ M. walk_may_close-met, λ κs a g w. refl);
      walk_totals = (λ M. walk_totals-met, λ κs a g w. refl);
      find = (λ M. find-met, λ κs a g w. refl);
      disposition = (λ M. disposition-met, λ κs a g w. refl);
      find_with_totals = (λ M. find_with_totals-met, λ κs a g w. refl);
      next_opening = (λ M. next_opening-met, λ κs a g w. refl);
      refusal_of_call = (λ M. refusal_of_call-met, λ κs a g w. refl);
      refused_call = (λ M. refused_call-met, λ κs a g w. refl);
      as_count = (λ M. as_count-met, λ κs a g w. refl);
      as_index = (λ M. as_index-met, λ κs a g w. refl);
      write = (λ M. write-met, λ κs a g w. refl);
      read_back = (λ M. read_back-met, λ κs a g w. refl);
      carries_same = (λ M. carries_same-met, λ κs a g w. refl);
      change = (λ M. change-met, λ κs a g w. refl);
      withdraw = (λ M. withdraw-met, λ κs a g w. refl);
      compare = (λ M. compare-met, λ κs a g w. refl);
      find_line = (λ M. find_line-met, λ κs a g w. refl);
      line = (λ M. line-met, λ κs a g w. refl);
      mav_digits = (λ M. mav_digits-met, λ κs a g w. refl);
      mav_amount = (λ M. mav_amount-met, λ κs a g w. refl);
      mav_date = (λ M. mav_date-met, λ κs a g w. refl);
      mav_read = (λ M. mav_read-met, λ κs a g w. refl);
      mav_find = (λ M. mav_find-met, λ κs a g w. refl);
      mav_write = (λ M. mav_write-met, λ κs a g w. refl);
      mav_list = (λ M. mav_list-met, λ κs a g w. refl);
      mav_change = (λ M. mav_change-met, λ κs a g w. refl);
      mav_withdraw = (λ M. mav_withdraw-met, λ κs a g w. refl);
      mav_compare = (λ M. mav_compare-met, λ κs a g w. refl);
      mav_compare_line = (λ M. mav_compare_line-met, λ κs a g w. refl);
    }
