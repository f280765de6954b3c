-- Request M-103 at work: the last of sixty fields is answered and listed, and a book without it finds the sheet at fault there, all computed.
-- Assumes nothing.
use mathlib.Core.Path.{◌≡◌, refl}
use mathlib.Core.List.{[], ◌∷◌, ◌++◌}
use lib.ListN.{replicate}
use Rattle.format.specs.Basics.{scan, first_bad}
use Rattle.format.specs.Format.{tables_at, book_of}
use Rattle.format.specs.Reading.{trailer_test, list_test, tables_step, verdict}
use Rattle.format.specs.Examples.{fields_only}
use Rattle.consistency.specs.Consistency.{Sheet}
use Rattle.consistency.specs.Largest.{largest_domains, rounds, start, remove, remove_from, count, count_of, book_supports}
use Rattle.consistency.specs.Emptiness.{none_empty}
use Rattle.consistency.specs.Counts.{total, struck, lines, outside}
use Rattle.calls.specs.Calls.{plain_sheet, fresh_sheet, done, turned, entered, alternatives}

-- a sheet with the last place answered, and no other
abbrev last_answered : Sheet
last_answered = plain_sheet (replicate 59 255 ++ (0 ∷ []))

pub last_entered : entered (fields_only 2 60) fresh_sheet 59 0 ≡ done [] last_answered []
unfolding entered verdict trailer_test list_test tables_step first_bad scan book_of tables_at
last_entered = refl

-- the one code that it has is its alternative, and nothing is struck
pub last_listed : alternatives (fields_only 2 60) last_answered (replicate 2 7) ≡ done (1 ∷ 0 ∷ []) last_answered (59 ∷ 0 ∷ [])
unfolding alternatives total none_empty struck lines outside largest_domains rounds start remove remove_from count count_of book_supports verdict trailer_test list_test tables_step first_bad scan book_of tables_at
last_listed = refl

-- a book without that field, of either version, turns the sheet down by 14 at place 59
pub last_fault : (entered (fields_only 2 59) last_answered 0 0 ≡ turned 0 last_answered [] 14 59)
    × (entered (fields_only 1 32) last_answered 0 0 ≡ turned 0 last_answered [] 14 59)
unfolding entered verdict trailer_test list_test tables_step first_bad scan book_of tables_at
last_fault = (refl, refl)
