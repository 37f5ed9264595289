-- `list::row_in` meets its contract. Assumes nothing.
use mathlib.Core.Path.{refl, ◌∙◌}
use Rattle.std.proofs.Common.{rules, tests}
use Rattle.std.proofs.lemmas.Iterator.{YieldsList-from_slice}
use Rattle.std.proofs.lemmas.Iterator.Consumers.{YieldsList-from_copied}
use Rattle.std.proofs.lemmas.Iterator.Search.{find_from_yields_List}
use Rattle.records.specs.Kinds.{has_type}
use Rattle.list.specs.Table.{record_of}
use Rattle.list.specs.declared.table.ItemKind.{ItemKind}
use Rattle.list.proofs.TableRows.{row_found}
use Rattle.list.proofs.table.row_in.Goals as goal

pub returns : goal.returns
returns c =
    row_found (λ (k : ItemKind). has_type (record_of k) c.args.rec.now) _ c.find.result
    (find_from_yields_List (λ (k : ItemKind). has_type (record_of k) c.args.rec.now) _ _ c.find.result c.find.ensures.ran (YieldsList-from_copied (YieldsList-from_slice c.kinds_of-kinds.result cc)) (λ x b q k. search (rules, tests)))
    ∙ rw c.kinds_of-kinds.ensures refl
