-- Demand 1, from the laws of each crate. Assumes nothing.
use Rattle.fields.proofs.Amounts.{amount_tested, amount-refused}
use Rattle.fields.proofs.DigitField.{field-refused}
use Rattle.fields.proofs.Gregorian.{date-refused}
use Rattle.records.proofs.Amounts.{amount-rows}
use Rattle.records.proofs.RightOrBroken.{checks_in_order, broken_exact}
use Rattle.records.proofs.Numbers.{one_for_length}
use Rattle.flow.proofs.Accepted.{length-refused}
use Rattle.flow.proofs.Dispositions.{find-refused, part_placed}
use Rattle.flow.proofs.FindWithTotals.{find_with_totals_exact}
use Rattle.grammar.proofs.AtPlace.{place_fault_exact}
use Rattle.grammar.proofs.FirstFault.{first_fault_exact}
use Rattle.grammar.proofs.Grammar.{right_or_faulty}
use Rattle.grammar.proofs.Parts.{part-empty}
use Rattle.list.proofs.Answered.{write_answers, write_leaves, read_back-refused, read_back_answers, read_back_leaves}
use Rattle.list.proofs.ListItems.{faulty_exact}
use Rattle.list.proofs.WriteRefused.{write-refused}
use Rattle.amend.proofs.Answered.{change-refused, withdraw-refused, refused_untouched}
use Rattle.evenings.proofs.Refused.{compare-refused, compare-accepted, compare_leaves, line_refused, line_placed}
use Rattle.capi.proofs.Returned.{refused_leaves, returned_tells}
use Rattle.claims.specs.Demand1.{Demand1}
use Rattle.claims.proofs.EntryPoints.{entry_points}
use Rattle.claims.proofs.Numbers.{numbers_given}

pub demand1 : Demand1
demand1 =
    record {
      entry_points = entry_points;
      numbers = numbers_given;
      digits = field-refused;
      amount = amount-refused;
      amount_tested = amount_tested;
      date = date-refused;
      checks_in_order = checks_in_order;
      broken = broken_exact;
      one_for_length = one_for_length;
      amount-rows = amount-rows;
      at_place = place_fault_exact;
      read = first_fault_exact;
      right_or_faulty = right_or_faulty;
      length-refused = length-refused;
      find = find-refused;
      part = part-empty;
      part_placed = part_placed;
      find_with_totals_exact = find_with_totals_exact;
      faulty = faulty_exact;
      write = write-refused;
      write_answers = write_answers;
      read_back = read_back-refused;
      read_back_answers = read_back_answers;
      change-refused = change-refused;
      withdraw-refused = withdraw-refused;
      compare-refused = compare-refused;
      compare-accepted = compare-accepted;
      line_refused = line_refused;
      line_placed = line_placed;
      written_none = write_leaves;
      read_back-none = read_back_leaves;
      amended-none = refused_untouched;
      compared-none = compare_leaves;
      returned-none = refused_leaves;
      returned_tells = returned_tells;
    }
