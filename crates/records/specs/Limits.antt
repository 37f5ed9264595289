-- What the digits of a trailer hold, and where the code's counts stop: one more than that, so that no record can tell the difference.
-- Assumes nothing.
use Rattle.std.specs.Prelude.{ℕ, suc, min}
use Rattle.records.specs.Context.{Context}
use Rattle.records.specs.declared.judged.Counts.{Counts}

-- the most that seven digits hold: of dispositions, and of records; and the most that fifteen hold: of cents
abbrev pub most_records : ℕ
most_records = 9999999

abbrev pub most_cents : ℕ
most_cents = 999999999999999

-- one more than each
abbrev pub count_limit : ℕ
count_limit = suc most_records

abbrev pub cents_limit : ℕ
cents_limit = suc most_cents

abbrev pub saturated_counts : Counts → Counts
saturated_counts c = record { dispositions = min c.dispositions count_limit; cents = min c.cents cents_limit; records = c.records }

abbrev pub saturated_context : Context → Context
saturated_context ctx = record { header = ctx.header; company = ctx.company; kind = ctx.kind; counts = saturated_counts ctx.counts }
