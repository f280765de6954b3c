-- E1 to E8 and the examples of document 02 hold, computed from the bytes over the definitions that the contracts cite. Assumes nothing.
use mathlib.Core.Path.{refl}
use Rattle.format.specs.Basics.{scan, first_bad}
use Rattle.format.specs.Format.{encode, table_bytes, trailer_bytes, rows_at, table_at, tables_at, book_of}
use Rattle.format.specs.Reading.{trailer_test, list_test, rows_step, table_step, tables_step, verdict, reading}
use Rattle.consistency.specs.Counting.{tabulate}
use Rattle.consistency.specs.Largest.{remove_from, remove, count_of, count, row_supports, table_supports, book_supports, start, rounds, largest_domains}
use Rattle.consistency.specs.Emptiness.{none_empty}
use Rattle.consistency.specs.Counts.{codes_in, outside, total, struck, lines, masks}
use Rattle.consistency.specs.Rows.{first_support}
use Rattle.consistency.specs.Readings.{differing}
use Rattle.consistency.specs.Nearest.{keeps_backed, after, readings, nearest}
use Rattle.calls.specs.Calls.{loaded, filtered, alternatives, row_behind, nearest_reading}
use Rattle.calls.specs.Examples.{ExamplesHold}
use Rattle.calls.specs.Nearest.{NearestExamplesHold}

pub examples_hold : ExamplesHold
unfolding scan first_bad encode table_bytes trailer_bytes rows_at table_at tables_at book_of trailer_test list_test rows_step table_step tables_step verdict reading tabulate remove_from remove count_of count row_supports table_supports book_supports start rounds largest_domains none_empty codes_in outside total struck lines masks first_support loaded filtered alternatives row_behind
examples_hold = refl

pub nearest_examples_lem : NearestExamplesHold
unfolding scan first_bad encode table_bytes trailer_bytes rows_at table_at tables_at book_of trailer_test list_test rows_step table_step tables_step verdict tabulate differing keeps_backed after readings nearest nearest_reading
nearest_examples_lem = refl
