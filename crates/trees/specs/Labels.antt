-- The labels of fields, in an array. Assumes nothing.
use Rattle.std.specs.Prelude.{ℕ, ◌<◌, ◌≡◌, List, length, get_or}
use Rattle.format.specs.Format.{field_most}

-- each field of any book has its label there
pub record Labelled (label : ℕ → ℕ) (labels : List ℕ) : Type 0 where
  pub long : length labels ≡ field_most
  pub each : (g : ℕ) → g < field_most → get_or labels g 0 ≡ label g
