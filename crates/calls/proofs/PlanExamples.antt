-- The examples of the debrief plan, computed. Assumes nothing.
use mathlib.Core.Path.{refl}
use Rattle.format.specs.Basics.{scan, first_bad}
use Rattle.format.specs.Format.{table_bytes, trailer_bytes, encode, rows_at, table_at, tables_at, book_of}
use Rattle.format.specs.Reading.{trailer_test, list_test, rows_step, table_step, tables_step, verdict}
use Rattle.consistency.specs.Largest.{remove_from, remove, count_of, count, row_supports, table_supports, book_supports, start, rounds, largest_domains}
use Rattle.consistency.specs.Emptiness.{none_empty}
use Rattle.consistency.specs.Counts.{codes_in}
use Rattle.consistency.specs.Plans.{settles, least_plan, list_ok}
use Rattle.calls.specs.Calls.{debrief_plan}
use Rattle.calls.specs.Plans.{PlanExamplesHold}

pub plan_examples_lem : PlanExamplesHold
unfolding debrief_plan list_ok least_plan settles codes_in none_empty largest_domains rounds start book_supports table_supports row_supports count count_of remove remove_from encode trailer_bytes table_bytes verdict tables_step table_step rows_step list_test trailer_test first_bad scan book_of tables_at table_at rows_at
plan_examples_lem = refl
