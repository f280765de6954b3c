-- Requests M-105 and M-107 at work: on E1, a list of calls with a photograph, and what listing, filtering and storing answer behind it; sheets at
-- fault. All computed. Assumes nothing.
use Prim.Native.Nat.{◌-◌}
use mathlib.Core.Path.{◌≡◌, refl}
use mathlib.Core.Bool.{true, false}
use mathlib.Core.List.{List, [], ◌∷◌}
use lib.ListN.{replicate}
use Rattle.format.specs.Basics.{scan, first_bad}
use Rattle.format.specs.Format.{rows_at, table_at, tables_at, book_of}
use Rattle.format.specs.Reading.{trailer_test, list_test, rows_step, table_step, tables_step, verdict}
use Rattle.format.specs.Examples.{e1}
use Rattle.consistency.specs.Counting.{tabulate}
use Rattle.consistency.specs.Consistency.{places, Sheet, sheet_with}
use Rattle.consistency.specs.Largest.{largest_domains, rounds, start, remove, remove_from, count, count_of, book_supports, table_supports, row_supports}
use Rattle.consistency.specs.Emptiness.{none_empty}
use Rattle.consistency.specs.Counts.{total, struck, lines, outside, masks}
use Rattle.calls.specs.Calls.{fresh_sheet, turned, done, entered, withdrawn, photographed, filtered, alternatives, stored}
use Rattle.calls.specs.Histories.{Call, enter, withdraw, photograph, clear, results, sheet_through, sheet_after}
use Rattle.calls.specs.Conditions.{numbers}

-- an answer, its photograph; the answer sent again; then 22 for another code and withdraw, 16 for a code that the field lacks; the photograph again;
-- 17, no answer; 15, no such field; another field's answer
abbrev some_calls : List Call
some_calls =
    enter 0 0 ∷ photograph 0 ∷ enter 0 0 ∷ enter 0 1 ∷ withdraw 0 ∷ enter 0 2 ∷ photograph 0 ∷ photograph 1 ∷ photograph 3 ∷ enter 1 1 ∷ []

-- E1's sheet with field 0 photographed
abbrev some_sheet : Sheet
some_sheet = sheet_with (0 ∷ 1 ∷ replicate (places - 2) 255) (true ∷ replicate (places - 1) false)

pub some_numbers : numbers (results e1 fresh_sheet some_calls) ≡ 0 ∷ 0 ∷ 0 ∷ 22 ∷ 22 ∷ 16 ∷ 0 ∷ 17 ∷ 15 ∷ 0 ∷ []
unfolding results entered withdrawn photographed verdict trailer_test list_test tables_step table_step rows_step first_bad scan book_of tables_at table_at rows_at
some_numbers = refl

-- field 1 alone has a case of its own: E1 has total 4 and struck 11 where neither is photographed
pub some_alternatives : alternatives e1 (sheet_after e1 some_calls) (replicate 5 7) ≡ done (2 ∷ 8 ∷ []) some_sheet (1 ∷ 0 ∷ 1 ∷ 1 ∷ 7 ∷ [])
unfolding alternatives none_empty total struck lines outside largest_domains rounds start remove remove_from count count_of book_supports table_supports row_supports sheet_through entered withdrawn photographed verdict trailer_test list_test tables_step table_step rows_step first_bad scan book_of tables_at table_at rows_at
some_alternatives = refl

-- plain filtering lifts the photographed field
pub some_filtered : filtered e1 some_sheet 0 (replicate 3 9) ≡ done [] some_sheet (3 ∷ 2 ∷ 6 ∷ [])
unfolding filtered masks tabulate largest_domains rounds start remove remove_from count count_of book_supports table_supports row_supports verdict trailer_test list_test tables_step table_step rows_step first_bad scan book_of tables_at table_at rows_at
some_filtered = refl

-- it is not stored, whatever is lent; clear makes it fresh
pub some_stored : stored e1 some_sheet [] ≡ turned 0 some_sheet [] 22 0
unfolding stored verdict trailer_test list_test tables_step table_step rows_step first_bad scan book_of tables_at table_at rows_at
some_stored = refl

pub some_cleared : sheet_through e1 some_sheet (clear ∷ []) ≡ fresh_sheet
unfolding sheet_through
some_cleared = refl

-- 14 at the lowest place: field 2 is photographed without an answer, and so is a later place
abbrev faulty_sheet : Sheet
faulty_sheet = sheet_with (0 ∷ 1 ∷ replicate (places - 2) 255) (true ∷ false ∷ true ∷ false ∷ true ∷ replicate (places - 5) false)

pub some_fault : photographed e1 faulty_sheet 0 ≡ turned 0 faulty_sheet [] 14 2
unfolding photographed verdict trailer_test list_test tables_step table_step rows_step first_bad scan book_of tables_at table_at rows_at
some_fault = refl

-- a later place alone
abbrev later_sheet : Sheet
later_sheet = sheet_with (0 ∷ 1 ∷ replicate (places - 2) 255) (true ∷ false ∷ false ∷ false ∷ true ∷ replicate (places - 5) false)

pub later_fault : photographed e1 later_sheet 0 ≡ turned 0 later_sheet [] 14 4
unfolding photographed verdict trailer_test list_test tables_step table_step rows_step first_bad scan book_of tables_at table_at rows_at
later_fault = refl
