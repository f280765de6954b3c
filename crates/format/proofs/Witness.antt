-- The promise is met by a book with tables: E1 of document 01; the limits of both versions, at the limit and one beyond. Assumes nothing.
use mathlib.Core.Path.{◌≡◌, refl}
use mathlib.Core.List.{[], ◌∷◌}
use Rattle.format.specs.Basics.{scan, first_bad}
use Rattle.format.specs.Format.{rows_at, table_at, tables_at, book_of}
use Rattle.format.specs.Reading.{trailer_test, list_test, rows_step, table_step, tables_step, pass, verdict, refused, accepted, reading}
use Rattle.format.specs.Promise.{Promise}
use Rattle.format.specs.Examples.{e1, fields_only}
use Rattle.format.proofs.Verdict.{verdict_promise}

-- E1 passes each test
e1_passes : verdict e1 ≡ pass
unfolding verdict trailer_test list_test tables_step table_step rows_step first_bad scan
e1_passes = refl

-- so it keeps the promise
pub e1_promise : Promise e1
e1_promise = verdict_promise e1 e1_passes

-- "book 3 2 8 7"
pub e1_reading : reading e1 ≡ accepted (3 ∷ 2 ∷ 8 ∷ 7 ∷ [])
unfolding reading verdict trailer_test list_test tables_step table_step rows_step first_bad scan rows_at table_at tables_at book_of
e1_reading = refl

-- "Version 1 keeps its limit of 32"
pub version_1_limit : (reading (fields_only 1 32) ≡ accepted (32 ∷ 0 ∷ 0 ∷ 0 ∷ [])) × (reading (fields_only 1 33) ≡ refused 4 4 35)
unfolding reading verdict trailer_test list_test tables_step table_step rows_step first_bad scan rows_at table_at tables_at book_of
version_1_limit = (refl, refl)

-- "Version 2 of the book allows 1 to 60 fields"
pub version_2_limit : (reading (fields_only 2 60) ≡ accepted (60 ∷ 0 ∷ 0 ∷ 0 ∷ [])) × (reading (fields_only 2 61) ≡ refused 4 4 63)
unfolding reading verdict trailer_test list_test tables_step table_step rows_step first_bad scan rows_at table_at tables_at book_of
version_2_limit = (refl, refl)

-- "Refusal 3 now means neither version"
pub version_neither : (reading (fields_only 0 1) ≡ refused 4 3 5) × (reading (fields_only 3 1) ≡ refused 4 3 5)
unfolding reading verdict trailer_test list_test tables_step table_step rows_step first_bad scan rows_at table_at tables_at book_of
version_neither = (refl, refl)
