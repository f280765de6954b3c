-- E1 is shown as its listing, and its listing is written as E1, both computed. Assumes nothing.
use mathlib.Core.Path.{◌≡◌, refl}
use mathlib.Core.Bool.{true}
use Rattle.format.specs.Basics.{scan, first_bad}
use Rattle.format.specs.Format.{table_bytes, trailer_bytes, encode, rows_at, table_at, tables_at, book_of}
use Rattle.format.specs.Reading.{trailer_test, list_test, rows_step, table_step, tables_step, verdict, reading}
use Rattle.format.specs.Listing.{table_numbers, listing_of, table_in, tables_in, tables_end, book_in}
use Rattle.format.specs.Writing.{laid_out, writable}
use Rattle.format.specs.Examples.{e1, e1_listing}

pub e1_listing_lem : listing_of (book_of e1) ≡ e1_listing
unfolding listing_of table_numbers book_of tables_at table_at rows_at
e1_listing_lem = refl

pub e1_laid : laid_out e1_listing ≡ e1
unfolding book_in tables_in table_in tables_end rows_at encode trailer_bytes table_bytes
e1_laid = refl

pub e1_writable : writable e1_listing ≡ true
unfolding writable book_in tables_in table_in tables_end rows_at encode trailer_bytes table_bytes reading verdict trailer_test list_test tables_step table_step rows_step first_bad scan
e1_writable = refl
