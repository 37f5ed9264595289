-- Every public function of the library meets its contract, and none of the contracts has a `requires`. Each says what the function answers
-- and leaves by a definition: what the demands say of the definitions they say of the shipped code. Assumes nothing.
use Rattle.std.specs.Prelude.{◌≡◌}
use base.Logic.{emp}
use borrow.Fn.World.{World, Pr}
use Rattle.refusals.proofs.Reason.number.Reads.{requires as reason_number-requires}
use Rattle.refusals.proofs.Reason.number.Statement.{statement as reason_number-statement}
use Rattle.fields.proofs.read_digits.Reads.{requires as read_digits-requires}
use Rattle.fields.proofs.read_digits.Statement.{statement as read_digits-statement}
use Rattle.fields.proofs.write_digits.Reads.{requires as write_digits-requires}
use Rattle.fields.proofs.write_digits.Statement.{statement as write_digits-statement}
use Rattle.fields.proofs.read_amount.Reads.{requires as read_amount-requires}
use Rattle.fields.proofs.read_amount.Statement.{statement as read_amount-statement}
use Rattle.fields.proofs.is_amount.Reads.{requires as is_amount-requires}
use Rattle.fields.proofs.is_amount.Statement.{statement as is_amount-statement}
use Rattle.fields.proofs.read_date.Reads.{requires as read_date-requires}
use Rattle.fields.proofs.read_date.Statement.{statement as read_date-statement}
use Rattle.fields.proofs.all_blank.Reads.{requires as all_blank-requires}
use Rattle.fields.proofs.all_blank.Statement.{statement as all_blank-statement}
use Rattle.fields.proofs.equal.Reads.{requires as equal-requires}
use Rattle.fields.proofs.equal.Statement.{statement as equal-statement}
use Rattle.records.proofs.judge.Reads.{requires as record_judge-requires}
use Rattle.records.proofs.judge.Statement.{statement as record_judge-statement}
use Rattle.records.proofs.passes_quick_test.Reads.{requires as passes_quick_test-requires}
use Rattle.records.proofs.passes_quick_test.Statement.{statement as passes_quick_test-statement}
use Rattle.records.proofs.bad_byte.Reads.{requires as bad_byte-requires}
use Rattle.records.proofs.bad_byte.Statement.{statement as bad_byte-statement}
use Rattle.records.proofs.field.Reads.{requires as field-requires}
use Rattle.records.proofs.field.Statement.{statement as field-statement}
use Rattle.records.proofs.seven_digits.Reads.{requires as seven_digits-requires}
use Rattle.records.proofs.seven_digits.Statement.{statement as seven_digits-statement}
use Rattle.records.proofs.write_number.Reads.{requires as write_number-requires}
use Rattle.records.proofs.write_number.Statement.{statement as write_number-statement}
use Rattle.records.proofs.type_of.Reads.{requires as type_of-requires}
use Rattle.records.proofs.type_of.Statement.{statement as type_of-statement}
use Rattle.records.proofs.has_type.Reads.{requires as has_type-requires}
use Rattle.records.proofs.has_type.Statement.{statement as has_type-statement}
use Rattle.records.proofs.is_opening.Reads.{requires as is_opening-requires}
use Rattle.records.proofs.is_opening.Statement.{statement as is_opening-statement}
use Rattle.records.proofs.amount.Reads.{requires as amount-requires}
use Rattle.records.proofs.amount.Statement.{statement as amount-statement}
use Rattle.records.proofs.heads.Reads.{requires as heads-requires}
use Rattle.records.proofs.heads.Statement.{statement as heads-statement}
use Rattle.records.proofs.opens.Reads.{requires as opens-requires}
use Rattle.records.proofs.opens.Statement.{statement as opens-statement}
use Rattle.records.proofs.causale_of.Reads.{requires as causale_of-requires}
use Rattle.records.proofs.causale_of.Statement.{statement as causale_of-statement}
use Rattle.records.proofs.sign_of.Reads.{requires as sign_of-requires}
use Rattle.records.proofs.sign_of.Statement.{statement as sign_of-statement}
use Rattle.records.proofs.total_first.Reads.{requires as total_first-requires}
use Rattle.records.proofs.total_first.Statement.{statement as total_first-statement}
use Rattle.records.proofs.total_last.Reads.{requires as total_last-requires}
use Rattle.records.proofs.total_last.Statement.{statement as total_last-statement}
use Rattle.records.proofs.total_at.Reads.{requires as total_at-requires}
use Rattle.records.proofs.total_at.Statement.{statement as total_at-statement}
use Rattle.records.proofs.kind_in.Reads.{requires as kind_in-requires}
use Rattle.records.proofs.kind_in.Statement.{statement as kind_in-statement}
use Rattle.records.proofs.or_requests.Reads.{requires as or_requests-requires}
use Rattle.records.proofs.or_requests.Statement.{statement as or_requests-statement}
use Rattle.flow.proofs.read.Reads.{requires as read-requires}
use Rattle.flow.proofs.read.Statement.{statement as read-statement}
use Rattle.flow.proofs.first_company.Reads.{requires as first_company-requires}
use Rattle.flow.proofs.first_company.Statement.{statement as first_company-statement}
use Rattle.flow.proofs.walk.Walk.start.Reads.{requires as walk_start-requires}
use Rattle.flow.proofs.walk.Walk.start.Statement.{statement as walk_start-statement}
use Rattle.flow.proofs.walk.Walk.judge.Reads.{requires as walk_judge-requires}
use Rattle.flow.proofs.walk.Walk.judge.Statement.{statement as walk_judge-statement}
use Rattle.flow.proofs.walk.Walk.next.Reads.{requires as walk_next-requires}
use Rattle.flow.proofs.walk.Walk.next.Statement.{statement as walk_next-statement}
use Rattle.flow.proofs.walk.Walk.complete.Reads.{requires as walk_complete-requires}
use Rattle.flow.proofs.walk.Walk.complete.Statement.{statement as walk_complete-statement}
use Rattle.flow.proofs.walk.Walk.may_close.Reads.{requires as walk_may_close-requires}
use Rattle.flow.proofs.walk.Walk.may_close.Statement.{statement as walk_may_close-statement}
use Rattle.flow.proofs.walk.Walk.totals.Reads.{requires as walk_totals-requires}
use Rattle.flow.proofs.walk.Walk.totals.Statement.{statement as walk_totals-statement}
use Rattle.flow.proofs.find.Reads.{requires as find-requires}
use Rattle.flow.proofs.find.Statement.{statement as find-statement}
use Rattle.flow.proofs.disposition.Reads.{requires as disposition-requires}
use Rattle.flow.proofs.disposition.Statement.{statement as disposition-statement}
use Rattle.flow.proofs.find_with_totals.Reads.{requires as find_with_totals-requires}
use Rattle.flow.proofs.find_with_totals.Statement.{statement as find_with_totals-statement}
use Rattle.flow.proofs.next_opening.Reads.{requires as next_opening-requires}
use Rattle.flow.proofs.next_opening.Statement.{statement as next_opening-statement}
use Rattle.flow.proofs.as_count.Reads.{requires as as_count-requires}
use Rattle.flow.proofs.as_count.Statement.{statement as as_count-statement}
use Rattle.flow.proofs.as_index.Reads.{requires as as_index-requires}
use Rattle.flow.proofs.as_index.Statement.{statement as as_index-statement}
use Rattle.flow.proofs.refusal_of_call.Reads.{requires as refusal_of_call-requires}
use Rattle.flow.proofs.refusal_of_call.Statement.{statement as refusal_of_call-statement}
use Rattle.flow.proofs.refused_call.Reads.{requires as refused_call-requires}
use Rattle.flow.proofs.refused_call.Statement.{statement as refused_call-statement}
use Rattle.list.proofs.write.Reads.{requires as write-requires}
use Rattle.list.proofs.write.Statement.{statement as write-statement}
use Rattle.list.proofs.read_back.Reads.{requires as read_back-requires}
use Rattle.list.proofs.read_back.Statement.{statement as read_back-statement}
use Rattle.list.proofs.carries_same.Reads.{requires as carries_same-requires}
use Rattle.list.proofs.carries_same.Statement.{statement as carries_same-statement}
use Rattle.amend.proofs.change.Reads.{requires as change-requires}
use Rattle.amend.proofs.change.Statement.{statement as change-statement}
use Rattle.amend.proofs.withdraw.Reads.{requires as withdraw-requires}
use Rattle.amend.proofs.withdraw.Statement.{statement as withdraw-statement}
use Rattle.evenings.proofs.compare.Reads.{requires as compare-requires}
use Rattle.evenings.proofs.compare.Statement.{statement as compare-statement}
use Rattle.evenings.proofs.find_line.Reads.{requires as find_line-requires}
use Rattle.evenings.proofs.find_line.Statement.{statement as find_line-statement}
use Rattle.evenings.proofs.line.Reads.{requires as line-requires}
use Rattle.evenings.proofs.line.Statement.{statement as line-statement}
use Rattle.capi.proofs.mav_digits.Reads.{requires as mav_digits-requires}
use Rattle.capi.proofs.mav_digits.Statement.{statement as mav_digits-statement}
use Rattle.capi.proofs.mav_amount.Reads.{requires as mav_amount-requires}
use Rattle.capi.proofs.mav_amount.Statement.{statement as mav_amount-statement}
use Rattle.capi.proofs.mav_date.Reads.{requires as mav_date-requires}
use Rattle.capi.proofs.mav_date.Statement.{statement as mav_date-statement}
use Rattle.capi.proofs.mav_read.Reads.{requires as mav_read-requires}
use Rattle.capi.proofs.mav_read.Statement.{statement as mav_read-statement}
use Rattle.capi.proofs.mav_find.Reads.{requires as mav_find-requires}
use Rattle.capi.proofs.mav_find.Statement.{statement as mav_find-statement}
use Rattle.capi.proofs.mav_write.Reads.{requires as mav_write-requires}
use Rattle.capi.proofs.mav_write.Statement.{statement as mav_write-statement}
use Rattle.capi.proofs.mav_list.Reads.{requires as mav_list-requires}
use Rattle.capi.proofs.mav_list.Statement.{statement as mav_list-statement}
use Rattle.capi.proofs.mav_change.Reads.{requires as mav_change-requires}
use Rattle.capi.proofs.mav_change.Statement.{statement as mav_change-statement}
use Rattle.capi.proofs.mav_withdraw.Reads.{requires as mav_withdraw-requires}
use Rattle.capi.proofs.mav_withdraw.Statement.{statement as mav_withdraw-statement}
use Rattle.capi.proofs.mav_compare.Reads.{requires as mav_compare-requires}
use Rattle.capi.proofs.mav_compare.Statement.{statement as mav_compare-statement}
use Rattle.capi.proofs.mav_compare_line.Reads.{requires as mav_compare_line-requires}
use Rattle.capi.proofs.mav_compare_line.Statement.{statement as mav_compare_line-statement}

-- an entry point: the function meets its contract in every model of the logic, and the contract's `requires`, whatever the caller lends, is
-- the empty assertion
abbrev pub EntryPoint : {L : Type 0} {A : L → Type 0} {G : Type 0} → (Type 1 → Type 2) → ((κs : L) → A κs → G → (w : World) → Pr w) → Type 2
EntryPoint {L} {A} {G} statement requires = ((M : Type 1) → statement M) × ((κs : L) (a : A κs) (g : G) (w : World) → requires κs a g w ≡ emp w.𝓤)

pub record EntryPoints : Type 2 where
  -- refusals: the number of a reason
  pub reason_number : EntryPoint reason_number-statement reason_number-requires
  -- fields: the field rules
  pub read_digits : EntryPoint read_digits-statement read_digits-requires
  pub write_digits : EntryPoint write_digits-statement write_digits-requires
  pub read_amount : EntryPoint read_amount-statement read_amount-requires
  pub is_amount : EntryPoint is_amount-statement is_amount-requires
  pub read_date : EntryPoint read_date-statement read_date-requires
  pub all_blank : EntryPoint all_blank-statement all_blank-requires
  pub equal : EntryPoint equal-statement equal-requires
  -- records: the rules of one record
  pub record_judge : EntryPoint record_judge-statement record_judge-requires
  pub passes_quick_test : EntryPoint passes_quick_test-statement passes_quick_test-requires
  pub bad_byte : EntryPoint bad_byte-statement bad_byte-requires
  pub field : EntryPoint field-statement field-requires
  pub seven_digits : EntryPoint seven_digits-statement seven_digits-requires
  pub write_number : EntryPoint write_number-statement write_number-requires
  pub type_of : EntryPoint type_of-statement type_of-requires
  pub has_type : EntryPoint has_type-statement has_type-requires
  pub is_opening : EntryPoint is_opening-statement is_opening-requires
  pub amount : EntryPoint amount-statement amount-requires
  pub heads : EntryPoint heads-statement heads-requires
  pub opens : EntryPoint opens-statement opens-requires
  pub causale_of : EntryPoint causale_of-statement causale_of-requires
  pub sign_of : EntryPoint sign_of-statement sign_of-requires
  pub total_first : EntryPoint total_first-statement total_first-requires
  pub total_last : EntryPoint total_last-statement total_last-requires
  pub total_at : EntryPoint total_at-statement total_at-requires
  pub kind_in : EntryPoint kind_in-statement kind_in-requires
  pub or_requests : EntryPoint or_requests-statement or_requests-requires
  -- flow: a flow: reading it, the walk, and where a disposition is
  pub read : EntryPoint read-statement read-requires
  pub first_company : EntryPoint first_company-statement first_company-requires
  pub walk_start : EntryPoint walk_start-statement walk_start-requires
  pub walk_judge : EntryPoint walk_judge-statement walk_judge-requires
  pub walk_next : EntryPoint walk_next-statement walk_next-requires
  pub walk_complete : EntryPoint walk_complete-statement walk_complete-requires
  pub walk_may_close : EntryPoint walk_may_close-statement walk_may_close-requires
  pub walk_totals : EntryPoint walk_totals-statement walk_totals-requires
  pub find : EntryPoint find-statement find-requires
  pub disposition : EntryPoint disposition-statement disposition-requires
  pub find_with_totals : EntryPoint find_with_totals-statement find_with_totals-requires
  pub next_opening : EntryPoint next_opening-statement next_opening-requires
  pub refusal_of_call : EntryPoint refusal_of_call-statement refusal_of_call-requires
  pub refused_call : EntryPoint refused_call-statement refused_call-requires
  pub as_count : EntryPoint as_count-statement as_count-requires
  pub as_index : EntryPoint as_index-statement as_index-requires
  -- list: a list: writing it, reading a flow back, and whether two records have the same item
  pub write : EntryPoint write-statement write-requires
  pub read_back : EntryPoint read_back-statement read_back-requires
  pub carries_same : EntryPoint carries_same-statement carries_same-requires
  -- amend: the amendments
  pub change : EntryPoint change-statement change-requires
  pub withdraw : EntryPoint withdraw-statement withdraw-requires
  -- evenings: two flows compared
  pub compare : EntryPoint compare-statement compare-requires
  pub find_line : EntryPoint find_line-statement find_line-requires
  pub line : EntryPoint line-statement line-requires
  -- capi: the C interface, which `capi_c` exports by the same clauses
  pub mav_digits : EntryPoint mav_digits-statement mav_digits-requires
  pub mav_amount : EntryPoint mav_amount-statement mav_amount-requires
  pub mav_date : EntryPoint mav_date-statement mav_date-requires
  pub mav_read : EntryPoint mav_read-statement mav_read-requires
  pub mav_find : EntryPoint mav_find-statement mav_find-requires
  pub mav_write : EntryPoint mav_write-statement mav_write-requires
  pub mav_list : EntryPoint mav_list-statement mav_list-requires
  pub mav_change : EntryPoint mav_change-statement mav_change-requires
  pub mav_withdraw : EntryPoint mav_withdraw-statement mav_withdraw-requires
  pub mav_compare : EntryPoint mav_compare-statement mav_compare-requires
  pub mav_compare_line : EntryPoint mav_compare_line-statement mav_compare_line-requires
