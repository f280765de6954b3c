-- The examples of joining, computed. Assumes nothing.
use mathlib.Core.Path.{refl}
use Rattle.format.specs.Basics.{scan, first_bad}
use Rattle.format.specs.Format.{table_bytes, trailer_bytes, encode, rows_at, table_at, tables_at, book_of}
use Rattle.format.specs.Reading.{trailer_test, list_test, rows_step, table_step, tables_step, verdict}
use Rattle.format.specs.Writing.{into}
use Rattle.format.specs.Joining.{insert, risen, rows_on, in_each, keep, common_rows, common_tables, joined, joined_into, joining}
use Rattle.calls.specs.Joins.{JoinExamplesHold}

pub join_examples_lem : JoinExamplesHold
unfolding joining joined_into joined common_tables common_rows risen insert keep in_each rows_on into encode table_bytes trailer_bytes verdict trailer_test list_test tables_step table_step rows_step first_bad scan book_of tables_at table_at rows_at
join_examples_lem = record { books = refl; bytes = refl; answers = refl }
