-- Condition 3 at work: two different books, both accepted, that are alike; a list of calls with every refusal, with what listing answers behind
-- it, computed; and an enter of a code that does not stand. Condition 1 at work: each refusal of writing and showing. Assumes nothing.
use Prim.Native.Nat.{ℕ, ◌-◌}
use mathlib.Core.Path.{◌≡◌, refl, sym, ap, ◌∙◌, subst₂}
use mathlib.Core.Logic.{◌≢◌}
use mathlib.Core.Bool.{false}
use mathlib.Core.List.{List, [], ◌∷◌, map}
use native.Mathlib.Omega.{arith}
use lib.ListN.{replicate}
use Rattle.format.specs.Basics.{scan, first_bad, All}
use Rattle.format.specs.Format.{Book, trailer_bytes, encode, rows_at, table_at, tables_at, book_of}
use Rattle.format.specs.Reading.{Outcome, trailer_test, list_test, rows_step, table_step, tables_step, verdict, reading, Accepted}
use Rattle.format.specs.Listing.{table_numbers, listing_of, tables_in, tables_end, book_in}
use Rattle.format.specs.Writing.{declined, into, showing, laid_out, writable, writing}
use Rattle.format.specs.Examples.{e1, e1'}
use Rattle.format.proofs.Witness.{e1_reading}
use Rattle.format.proofs.ByteTests.{bytes_true}
use Rattle.consistency.specs.Consistency.{places, Sheet, field_of, nth}
use Rattle.consistency.specs.Largest.{largest, largest_domains, rounds, start, remove, remove_from, count, count_of, book_supports, table_supports, row_supports}
use Rattle.consistency.specs.Emptiness.{none_empty}
use Rattle.consistency.specs.Counts.{total, struck, lines, outside}
use Rattle.consistency.specs.Alike.{Alike}
use Rattle.consistency.proofs.AlikeExample.{example, turned, example_alike}
use Rattle.calls.specs.Calls.{plain_sheet, fresh_sheet, done, sheet_from, entered, withdrawn, alternatives}
use Rattle.calls.specs.Histories.{Call, enter, withdraw, clear, results, sheet_through, sheet_after}
use Rattle.calls.specs.Conditions.{to_show, Refusal, show_18, NoListing, missing, left_over, too_large, unread, WriteRefusal, write_20, write_18, SameResults, numbers}
use Rattle.calls.proofs.Condition3.{condition3}

-- ---- E1, and E1 with its tables the other way round and its repeated row once

-- both are accepted
e1_accepted : Accepted e1
e1_accepted = ap (λ (o : Outcome). o.number) e1_reading

e1'_accepted : Accepted e1'
unfolding reading verdict trailer_test list_test tables_step table_step rows_step first_bad scan
e1'_accepted = refl

-- the books that they hold
e1_book : book_of e1 ≡ example
unfolding book_of tables_at table_at rows_at
e1_book = refl

e1'_book : book_of e1' ≡ turned
unfolding book_of tables_at table_at rows_at
e1'_book = refl

-- they are different, and alike
pub e1_different : book_of e1 ≢ book_of e1'
e1_different e =
    let first : ◌≡◌ {A = ℕ} 0 1 = ap (λ (b : Book). field_of (nth b 0) 0) (sym e1_book ∙ e ∙ e1'_book) in
    omega arith

pub e1_alike : Alike (book_of e1) (book_of e1')
e1_alike = subst₂ Alike (sym e1_book) (sym e1'_book) example_alike

-- so no list of calls tells them apart
pub e1_same : (calls : List Call) (o : List ℕ) → SameResults e1 e1' calls o
e1_same = condition3.alike e1 e1' e1_accepted e1'_accepted e1_alike

-- ---- a list of calls on E1, by computing

-- "replacing an older one"; the code already held; 15, no such field; 16, no such code; 17, no answer
abbrev some_calls : List Call
some_calls =
    enter 2 2 ∷ clear ∷ enter 0 1 ∷ enter 1 1 ∷ enter 0 0 ∷ enter 0 0 ∷ enter 3 0 ∷ enter 1 3 ∷ withdraw 2 ∷ enter 2 0 ∷ withdraw 2 ∷ []

-- each call's number
pub some_numbers : numbers (results e1 fresh_sheet some_calls) ≡ 0 ∷ 0 ∷ 0 ∷ 0 ∷ 0 ∷ 0 ∷ 15 ∷ 16 ∷ 17 ∷ 0 ∷ 0 ∷ []
unfolding results entered withdrawn verdict trailer_test list_test tables_step table_step rows_step first_bad scan book_of tables_at table_at rows_at
some_numbers = refl

-- E1's sheet, total, number struck and lines; the ninth byte lent keeps its contents
pub some_alternatives : alternatives e1 (sheet_after e1 some_calls) (replicate 9 7)
    ≡ done (4 ∷ 11 ∷ []) (plain_sheet (0 ∷ 1 ∷ replicate (places - 2) 255)) (0 ∷ 0 ∷ 0 ∷ 1 ∷ 1 ∷ 0 ∷ 1 ∷ 1 ∷ 7 ∷ [])
unfolding alternatives total none_empty struck lines outside largest_domains rounds start remove remove_from count count_of book_supports table_supports row_supports sheet_through entered withdrawn verdict trailer_test list_test tables_step table_step rows_step first_bad scan book_of tables_at table_at rows_at
some_alternatives = refl

-- ---- "It is accepted even if the code isn't standing: the observer saw it"

-- E1 with field 0 answered 1
abbrev seen : Sheet
seen = sheet_after e1 (enter 0 1 ∷ [])

-- code 0 of field 1 does not stand
pub not_standing : largest (book_of e1) seen.answers 1 0 ≡ false
unfolding largest_domains rounds start remove remove_from count count_of book_supports table_supports row_supports sheet_through entered verdict trailer_test list_test tables_step table_step rows_step first_bad scan book_of tables_at table_at rows_at
not_standing = refl

-- entering it is accepted, and gives E2's sheet
pub still_entered : entered e1 seen 1 0 ≡ done [] (sheet_from (1 ∷ 0 ∷ 255 ∷ [])) []
unfolding sheet_through entered verdict trailer_test list_test tables_step table_step rows_step first_bad scan book_of tables_at table_at rows_at
still_entered = refl

-- ---- Request M-100, each refusal of writing: one field and the numbers behind it

-- its version is missing, as from each listing before request M-103
abbrev pub no_version : List ℕ
no_version = 1 ∷ 1 ∷ 0 ∷ []

-- a number is left over behind the version
abbrev pub one_over : List ℕ
one_over = 1 ∷ 1 ∷ 0 ∷ 1 ∷ 0 ∷ []

-- 257 codes are too many for a byte
abbrev pub over_byte : List ℕ
over_byte = 1 ∷ 257 ∷ 0 ∷ 1 ∷ []

-- reading refuses a field without codes, by 7
abbrev pub no_codes : List ℕ
no_codes = 1 ∷ 0 ∷ 0 ∷ 1 ∷ []

-- a listing of a book of seven bytes
abbrev seven : List ℕ
seven = 1 ∷ 1 ∷ 0 ∷ 1 ∷ []

-- each of the four is no listing for a reason of its own
pub no_version_missing : NoListing no_version
unfolding tables_end
no_version_missing = missing (omega arith)

pub one_over_left : NoListing one_over
unfolding tables_end
one_over_left = left_over (omega arith)

pub over_byte_large : NoListing over_byte
unfolding tables_end tables_in book_in encode trailer_bytes
over_byte_large = too_large refl (λ b. omega (arith, b.0))

pub no_codes_unread : NoListing no_codes
unfolding tables_end tables_in book_in encode trailer_bytes reading verdict trailer_test list_test first_bad scan
no_codes_unread = unread refl (bytes_true (laid_out no_codes) refl) (λ z. omega arith)

-- so they are refused by 20, whatever is lent; the last is by 18 where six bytes are
pub four_20 : (o : List ℕ) → All (λ (l : List ℕ). WriteRefusal l o 20 0) (no_version ∷ one_over ∷ over_byte ∷ no_codes ∷ [])
four_20 o = (write_20 no_version_missing, (write_20 one_over_left, (write_20 over_byte_large, (write_20 no_codes_unread, tt))))

pub seven_18 : WriteRefusal seven (replicate 6 9) 18 0
unfolding tables_end tables_in book_in encode trailer_bytes writable reading verdict trailer_test list_test tables_step first_bad scan
seven_18 = write_18 refl (omega arith)

-- the call refuses them, by computing, and changes no byte
pub writings_refused : map (λ (l : List ℕ). writing l (replicate 6 9)) (no_version ∷ one_over ∷ over_byte ∷ no_codes ∷ seven ∷ [])
    ≡ map (λ (number : ℕ). declined (replicate 6 9) number 0) (20 ∷ 20 ∷ 20 ∷ 20 ∷ 18 ∷ [])
unfolding into writing writable tables_end tables_in book_in encode trailer_bytes reading verdict trailer_test list_test tables_step first_bad scan
writings_refused = refl

-- ---- and showing's own: E1's listing has 30 numbers

pub e1_show_18 : (s : Sheet) → Refusal (book_of e1) s (to_show (replicate 29 9)) 18 0
unfolding book_of tables_at table_at rows_at listing_of table_numbers
e1_show_18 s = show_18 {o = replicate 29 9} (omega arith)

pub e1_not_shown : showing e1 (replicate 29 9) ≡ declined (replicate 29 9) 18 0
unfolding into showing verdict trailer_test list_test tables_step table_step rows_step first_bad scan book_of tables_at table_at rows_at listing_of table_numbers
e1_not_shown = refl
