-- `list::row_of` meets its contract. Assumes nothing.
use mathlib.Core.Bool.{true, false}
use mathlib.Core.Path.{◌≡◌, refl, ◌∙◌}
use lib.Dec.{eqb}
use borrow.Author.Tests.{ne_eqb}
use Rattle.std.proofs.Common.{rules, tests, eq-eqb}
use Rattle.std.proofs.lemmas.Iterator.{YieldsList-from_slice}
use Rattle.std.proofs.lemmas.Iterator.Consumers.{YieldsList-from_copied}
use Rattle.std.proofs.lemmas.Iterator.Search.{find_from_yields_List}
use Rattle.list.specs.Table.{letter, first_row}
use Rattle.list.specs.declared.table.ItemKind.{ItemKind}
use Rattle.list.proofs.TableRows.{row_found}
use Rattle.list.proofs.table.row_of.Goals as goal

pub returns-then-byte-letter : goal.returns-then-byte-letter
unfolding first_row
returns-then-byte-letter c =
    let same : eqb c.args.byte 81 ≡ true = eq-eqb _ _ (c.if-byte-letter.true ∙ c.letter.ensures) in
    rw same refl

pub returns : goal.returns
unfolding first_row
returns c =
    let apart : eqb c.args.byte 81 ≡ false = ne_eqb _ _ (rw c.letter.ensures at c.if-byte-letter.false) in
    rw apart
    (row_found (λ (k : ItemKind). eqb c.args.byte (letter k)) _ c.find.result
    (find_from_yields_List (λ (k : ItemKind). eqb c.args.byte (letter k)) _ _ c.find.result c.find.ensures.ran (YieldsList-from_copied (YieldsList-from_slice c.kinds_of-kinds.result cc)) (λ x b q k. search (rules, tests)))
    ∙ rw c.kinds_of-kinds.ensures refl)
