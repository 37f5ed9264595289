-- For the contracts of private functions: the positions of a field. Assumes nothing.
use Rattle.std.specs.Prelude.{ℕ, ◌-◌, ◌≤◌, ◌<◌}

-- positions a to e are a field of a record, of at most fifteen bytes
pub record Fits (a e : ℕ) : Type 0 where
  pub starts : 1 ≤ a
  pub some : a ≤ e
  pub few : e - a < 15
  pub within : e ≤ 120
