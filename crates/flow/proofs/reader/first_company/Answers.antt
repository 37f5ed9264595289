-- `flow::first_company` meets its contract. Assumes nothing.
use mathlib.Core.Bool.{true, false}
use mathlib.Core.Path.{◌≡◌, sym, ◌∙◌}
use borrow.Author.Tests.{eq-eqb, ne_eqb}
use Rattle.records.specs.Company.{is_none}
use Rattle.records.specs.Kinds.{opens}
use Rattle.flow.proofs.reader.first_company.Goals as goal

pub returns-then-not-opens : goal.returns-then-not-opens
returns-then-not-opens c =
    let other : opens c.args.kind ≡ false = sym c.opens.ensures ∙ c.if-not-opens.true in
    record { bytes = rw other; place = rw other }

pub returns-then-company-eq0 : goal.returns-then-company-eq0
returns-then-company-eq0 c =
    let opened : opens c.args.kind ≡ true = sym c.opens.ensures ∙ c.if-not-opens.false in
    let none : is_none c.args.company.now ≡ true = eq-eqb _ 0 c.if-company-eq0.true in
    record { bytes = rw (opened, none); place = rw (opened, none) }

pub returns : goal.returns
returns c =
    let opened : opens c.args.kind ≡ true = sym c.opens.ensures ∙ c.if-not-opens.false in
    let some : is_none c.args.company.now ≡ false = ne_eqb _ 0 c.if-company-eq0.false in
    record { bytes = rw (opened, some); place = rw (opened, some) }
