-- The fixed content of records (document 01, table of checks and "Our request list"); what depends on the kind of flow is in `FlowKinds`.
-- Assumes nothing.
use Rattle.std.specs.Prelude.{ℕ, List}
use Rattle.sequences.specs.Text.{text}

abbrev pub currency : List ℕ
currency = text "E"
