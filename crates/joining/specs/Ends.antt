-- The field list and the trailer behind the tables. Assumes nothing.
use Rattle.std.specs.Prelude.{ℕ, ◌+◌, ◌≤◌}
use Rattle.format.specs.Format.{table_limit}
use Rattle.joining.specs.Laid.{tables_most, end_most}

-- both have room behind the tables
pub record EndFits (room end tables : ℕ) : Type 0 where
  pub room_in : end + end_most ≤ room
  pub end_in : end ≤ tables_most
  pub tables_few : tables ≤ table_limit
