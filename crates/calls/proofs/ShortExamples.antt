-- The examples of the short form, computed. Assumes nothing.
use mathlib.Core.Path.{refl}
use Rattle.format.specs.Basics.{scan, first_bad}
use Rattle.format.specs.Format.{rows_at, table_at, tables_at, book_of}
use Rattle.format.specs.Reading.{trailer_test, list_test, rows_step, table_step, tables_step, verdict}
use Rattle.format.specs.Writing.{into}
use Rattle.calls.specs.Calls.{loaded}
use Rattle.calls.specs.Short.{short_of, is_short, code_fault, entries_onto, loaded_short, stored_short, shortened, lengthened}
use Rattle.calls.specs.ShortForms.{ShortExamplesHold}

pub short_examples : ShortExamplesHold
unfolding loaded loaded_short stored_short shortened lengthened short_of is_short code_fault entries_onto into verdict trailer_test list_test tables_step table_step rows_step first_bad scan book_of tables_at table_at rows_at
short_examples =
    record { stored = refl; too_few = refl; loads = refl; not_short = refl; codeless = refl; there = refl; back = refl }
