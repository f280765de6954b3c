-- E1's whole text, computed. Assumes nothing.
use mathlib.Core.Path.{◌≡◌, refl}
use mathlib.Core.List.{[], ◌∷◌}
use Rattle.format.specs.Basics.{scan, first_bad}
use Rattle.format.specs.Format.{rows_at, table_at, tables_at, book_of}
use Rattle.format.specs.Reading.{trailer_test, list_test, rows_step, table_step, tables_step, verdict, reading}
use Rattle.format.specs.Examples.{e1}
use Rattle.consistency.specs.Largest.{remove_from, remove, count_of, count, row_supports, table_supports, book_supports, start, rounds, largest_domains}
use Rattle.consistency.specs.Emptiness.{none_empty}
use Rattle.consistency.specs.Counts.{outside, total, struck, lines}
use Rattle.calls.specs.Calls.{loaded}
use Rattle.report.specs.Text.{digits, open_lines, accepted_text, report_text}

pub e1_text : report_text e1 (0 ∷ 1 ∷ 255 ∷ []) ≡
    98 ∷ 111 ∷ 111 ∷ 107 ∷ 32 ∷ 51 ∷ 32 ∷ 50 ∷ 32 ∷ 56 ∷ 32 ∷ 55 ∷ 10
    ∷ 115 ∷ 104 ∷ 101 ∷ 101 ∷ 116 ∷ 32 ∷ 50 ∷ 32 ∷ 52 ∷ 32 ∷ 49 ∷ 49 ∷ 10
    ∷ 97 ∷ 108 ∷ 116 ∷ 32 ∷ 48 ∷ 32 ∷ 48 ∷ 10
    ∷ 97 ∷ 108 ∷ 116 ∷ 32 ∷ 48 ∷ 32 ∷ 49 ∷ 10
    ∷ 97 ∷ 108 ∷ 116 ∷ 32 ∷ 49 ∷ 32 ∷ 48 ∷ 10
    ∷ 97 ∷ 108 ∷ 116 ∷ 32 ∷ 49 ∷ 32 ∷ 49 ∷ 10
    ∷ 111 ∷ 112 ∷ 101 ∷ 110 ∷ 32 ∷ 50 ∷ 32 ∷ 49 ∷ 10 ∷ []
unfolding scan first_bad rows_at table_at tables_at book_of trailer_test list_test rows_step table_step tables_step verdict reading remove_from remove count_of count row_supports table_supports book_supports start rounds largest_domains none_empty outside total struck lines loaded digits open_lines accepted_text report_text
e1_text = refl
