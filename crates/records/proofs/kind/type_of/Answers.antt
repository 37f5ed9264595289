-- `records::type_of` meets its contract. Assumes nothing.
use mathlib.Core.Path.{sym, ap}
use Rattle.records.specs.Kinds.{type_of}
use Rattle.records.proofs.kind.type_of.Goals as goal

pub returns-in-Im : goal.returns-in-Im
returns-in-Im c = sym (ap type_of c.in-Im.is)

pub returns-in-R14 : goal.returns-in-R14
returns-in-R14 c = sym (ap type_of c.in-R14.is)

pub returns-in-R16 : goal.returns-in-R16
returns-in-R16 c = sym (ap type_of c.in-R16.is)

pub returns-in-R20 : goal.returns-in-R20
returns-in-R20 c = sym (ap type_of c.in-R20.is)

pub returns-in-R30 : goal.returns-in-R30
returns-in-R30 c = sym (ap type_of c.in-R30.is)

pub returns-in-R40 : goal.returns-in-R40
returns-in-R40 c = sym (ap type_of c.in-R40.is)

pub returns-in-R50 : goal.returns-in-R50
returns-in-R50 c = sym (ap type_of c.in-R50.is)

pub returns-in-R59 : goal.returns-in-R59
returns-in-R59 c = sym (ap type_of c.in-R59.is)

pub returns-in-R51 : goal.returns-in-R51
returns-in-R51 c = sym (ap type_of c.in-R51.is)

pub returns-in-R70 : goal.returns-in-R70
returns-in-R70 c = sym (ap type_of c.in-R70.is)

pub returns-in-Ef : goal.returns-in-Ef
returns-in-Ef c = sym (ap type_of c.in-Ef.is)
