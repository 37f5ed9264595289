-- Demand 2, from the laws of each crate. Assumes nothing.
use Rattle.flow.proofs.Accepted.{accepted_exact}
use Rattle.flow.proofs.Dispositions.{each_asks, part_placed}
use Rattle.grammar.proofs.Grammar.{grammar_exact}
use Rattle.grammar.proofs.Parts.{one-kind, one-company, parts_exact, places_exact, opening_exact}
use Rattle.list.proofs.Answered.{write_answers, write_leaves, read_back-accepted, read_back_answers, read_back_leaves}
use Rattle.list.proofs.ListItems.{items_exact}
use Rattle.list.proofs.Rewritten.{own_list, own_items, rewritten_exact, rewritten_same, unchecked_only}
use Rattle.list.proofs.WriteRefused.{write-accepted}
use Rattle.list.proofs.Written.{written_exact}
use Rattle.claims.specs.Demand2.{Demand2}

pub demand2 : Demand2
demand2 =
    record {
      accepted_exactly = grammar_exact;
      sums = accepted_exact;
      one-kind = one-kind;
      one-company = one-company;
      each_asks = each_asks;
      parts = parts_exact;
      part_placed = part_placed;
      places = places_exact;
      openings = opening_exact;
      items = items_exact;
      list_accepted = write-accepted;
      list_answered = write_answers;
      list_written = write_leaves;
      flow_written = written_exact;
      own_list = own_list;
      own_items = own_items;
      flow_accepted = read_back-accepted;
      flow_answered = read_back_answers;
      list_read_back = read_back_leaves;
      accepted_again = rewritten_exact;
      same_again = rewritten_same;
      unchecked = unchecked_only;
    }
