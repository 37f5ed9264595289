-- Demand 2. Assumes nothing.
use Rattle.flow.specs.Laws.{AcceptedExact, EachAsks, PartPlaced}
use Rattle.grammar.specs.Laws.{GrammarExact, OneKind, OneCompany, PartsExact, PlacesExact, OpeningExact}
use Rattle.list.specs.Laws.{ItemsExact, WriteAccepted, WriteAnswers, WriteLeaves, WrittenExact, OwnList, OwnItems, ReadBackAccepted, ReadBackAnswers, ReadBackLeaves, RewrittenExact, RewrittenSame, UncheckedOnly}

pub record Demand2 : Type 0 where
  -- "a flow is accepted exactly when it keeps the M.Av. rules of document 01, trailer count and cents being the exact sums over its
  -- records": the answer is accepted with these numbers exactly where the flow is one of the grammar, and they are its sums
  pub accepted_exactly : GrammarExact
  pub sums : AcceptedExact
  -- document 02, E1: "new requests and recalls may not share a flow"; the kind answered is that of each of its records 14
  pub one-kind : OneKind
  -- E4: "92-96 of every record 14 equals that of the first, blanks counted as a content like any other"
  pub one-company : OneCompany
  -- E5: "no request for nothing"
  pub each_asks : EachAsks
  -- where each disposition of it stands: together all that is between header and trailer, in order, each at its own place in the flow
  pub parts : PartsExact
  pub part_placed : PartPlaced
  pub places : PlacesExact
  pub openings : OpeningExact
  -- "our request list becomes exactly the flow it spells": which items a list is, when they are accepted, with the counts and the sum of
  -- the items, that this is answered, and that the output then has exactly the encoding at its front and the rest as it was
  pub items : ItemsExact
  pub list_accepted : WriteAccepted
  pub list_answered : WriteAnswers
  pub list_written : WriteLeaves
  -- the flow written is accepted with the same totals, is canonical and gives back the list
  pub flow_written : WrittenExact
  -- "an accepted flow gives back its list": one item for each record but EF, and the output then has exactly these at its front
  pub own_list : OwnList
  pub own_items : OwnItems
  pub flow_accepted : ReadBackAccepted
  pub flow_answered : ReadBackAnswers
  pub list_read_back : ReadBackLeaves
  -- "and a clean flow comes again byte for byte": its list is accepted with the same totals, and gives the same bytes exactly where the
  -- flow was canonical
  pub accepted_again : RewrittenExact
  pub same_again : RewrittenSame
  -- a flow and the encoding of its list differ at no position that the table of checks names
  pub unchecked : UncheckedOnly
