-- The examples of tree books, computed. Assumes nothing.
use mathlib.Core.Path.{refl}
use Rattle.format.specs.Basics.{scan, first_bad}
use Rattle.format.specs.Format.{table_bytes, trailer_bytes, encode, rows_at, table_at, tables_at, book_of}
use Rattle.format.specs.Reading.{trailer_test, list_test, rows_step, table_step, tables_step, verdict, reading}
use Rattle.format.specs.Listing.{table_numbers, listing_of, tables_in, table_in, tables_end, book_in}
use Rattle.format.specs.Writing.{into, writable}
use Rattle.format.specs.Trees.{label, closes, first_wide, first_closing, first_byte, tree_test, tree_verdict, tree_reading, tree_writing}
use Rattle.calls.specs.Trees.{TreeExamplesHold}

pub tree_examples_lem : TreeExamplesHold
unfolding tree_reading tree_verdict tree_writing tree_test first_byte first_wide first_closing closes label into writable reading listing_of table_numbers tables_in table_in tables_end book_in encode table_bytes trailer_bytes verdict trailer_test list_test tables_step table_step rows_step first_bad scan book_of tables_at table_at rows_at
tree_examples_lem = record { read = refl; written = refl; bytes = refl }
