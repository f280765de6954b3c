-- The order of the lines: "by field then code". Assumes nothing.
use Rattle.std.specs.Prelude.{◌<◌, ◌≡◌, List}
use Rattle.format.specs.Basics.{Pairwise}
use Rattle.consistency.specs.Counts.{Line}

-- by field, then code
pub data Before : Line → Line → Type 0 where
  by_field : {l m : Line} → l.field < m.field → Before l m
  by_code : {l m : Line} → l.field ≡ m.field → l.code < m.code → Before l m

abbrev pub InOrder : List Line → Type 0
InOrder ls = Pairwise Before ls
