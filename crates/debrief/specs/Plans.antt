-- Document 02, M-110: the debrief plan behind 15, as the code answers it. Assumes nothing.
use Rattle.std.specs.Prelude.{ℕ, List, Option, Result, Ok, Err}
use Rattle.format.specs.Basics.{pick}
use Rattle.format.specs.Format.{Book}
use Rattle.consistency.specs.Plans.{list_ok, least_plan}
use Rattle.debrief.specs.declared.BadList.{BadList}

-- the list is turned down
abbrev pub bad_list : BadList
bad_list = record {}

-- the least number of questions for target t, or none; or 27
unfoldable pub plan_or_fault : Book → ℕ → List ℕ → List ℕ → Result (Option ℕ) BadList
plan_or_fault b t qs a = pick (list_ok b t qs a) (Ok (least_plan b t qs a)) (Err bad_list)
