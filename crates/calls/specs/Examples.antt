-- Document 01, "Examples to hold": E1 to E8 as one table; two of document 02's M-101, in which fields stay empty; and rows behind codes
-- of M-104. Assumes nothing.
use Rattle.std.specs.Prelude.{ℕ, ◌≡◌, List, [], ◌∷◌, ◌++◌, map, length, replicate}
use Rattle.format.specs.Format.{Book, encode, book_of}
use Rattle.format.specs.Reading.{Outcome, refused, accepted, reading}
use Rattle.format.specs.Examples.{e1}
use Rattle.consistency.specs.Consistency.{Sheet}
use Rattle.calls.specs.Calls.{loaded, filtered, alternatives, row_behind}

-- the rows of a table that makes two fields of two codes differ
abbrev pub differing : List (List ℕ)
differing = (0 ∷ 1 ∷ []) ∷ (1 ∷ 0 ∷ []) ∷ []

-- and of one that makes them equal
abbrev pub equal : List (List ℕ)
equal = (0 ∷ 0 ∷ []) ∷ (1 ∷ 1 ∷ []) ∷ []

-- E4: "three fields of two codes, three tables making each pair differ"
abbrev pub e4 : Book
e4 =
    record {
      version = 1;
      counts = 2 ∷ 2 ∷ 2 ∷ [];
      tables = record { fields = 0 ∷ 1 ∷ []; rows = differing } ∷ record { fields = 0 ∷ 2 ∷ []; rows = differing } ∷ record { fields = 1 ∷ 2 ∷ []; rows = differing } ∷ [];
    }

-- E6: "two fields of two codes; one table, on field 1, with no rows"; "E6 then has total 0 and still struck 5" (document 02, M-101)
abbrev pub e6 : Book
e6 = record { version = 1; counts = 2 ∷ 2 ∷ []; tables = record { fields = 1 ∷ []; rows = [] } ∷ [] }

-- E1 and one field more, of one code, tied to nothing and always empty: its only table has no rows
abbrev pub e1_apart : Book
e1_apart =
    record { version = 1; counts = (book_of e1).counts ++ 1 ∷ []; tables = (book_of e1).tables ++ record { fields = 3 ∷ []; rows = [] } ∷ [] }

-- four fields of two codes, fields 0 and 1 equal, 2 and 3 equal
abbrev pub two_pairs : Book
two_pairs =
    record {
      version = 1;
      counts = 2 ∷ 2 ∷ 2 ∷ 2 ∷ [];
      tables = record { fields = 0 ∷ 1 ∷ []; rows = equal } ∷ record { fields = 2 ∷ 3 ∷ []; rows = equal } ∷ [];
    }

-- one field of two codes, in a table of its own with the row 1 twice
abbrev pub alone : Book
alone = record { version = 1; counts = 2 ∷ []; tables = record { fields = 0 ∷ []; rows = (1 ∷ []) ∷ (1 ∷ []) ∷ [] } ∷ [] }

abbrev pub e7 : List ℕ
e7 = 1 ∷ 0 ∷ 0 ∷ 1 ∷ 0 ∷ 1 ∷ 229 ∷ []

-- "E7 without its last byte"
abbrev pub e8 : List ℕ
e8 = 1 ∷ 0 ∷ 0 ∷ 1 ∷ 0 ∷ 1 ∷ []

-- a field, a code and a table; and what is shown of it: 1 and the row, 0 and 0 for none, or the refusal
pub record RowExample : Type 0 where
  pub field : ℕ
  pub code : ℕ
  pub table : ℕ
  pub outcome : Outcome

-- a book's bytes and a stored sheet; what reading answers; the standing codes as plain filtering's numbers; the lines' bytes; total and
-- struck, or the refusal; and rows behind codes
pub record Example : Type 0 where
  pub book : List ℕ
  pub form : List ℕ
  pub read : Outcome
  pub standing : List ℕ
  pub pairs : List ℕ
  pub listing : Outcome
  pub rows : List RowExample

-- E1's table 0 is on fields 0 and 2 with rows 0 0, 0 1, 1 2 and 0 1 again; its table 1 on fields 1 and 2 with rows 0 0, 1 1, 1 2, 2 2.
-- Under its own sheet code 0 of field 0, and code 1 of fields 1 and 2, stand
abbrev pub rows_of_e1 : List RowExample
rows_of_e1 =
    -- codes that stand; row 3 repeats row 1
    record { field = 2; code = 1; table = 0; outcome = accepted (1 ∷ 1 ∷ []) }
    ∷ record { field = 0; code = 0; table = 0; outcome = accepted (1 ∷ 1 ∷ []) }
    -- table 0 strikes code 2 of field 2; in table 1 it has a row all the same
    ∷ record { field = 2; code = 2; table = 0; outcome = accepted (0 ∷ 0 ∷ []) }
    ∷ record { field = 2; code = 2; table = 1; outcome = accepted (1 ∷ 2 ∷ []) }
    -- codes without a row
    ∷ record { field = 0; code = 1; table = 0; outcome = accepted (0 ∷ 0 ∷ []) }
    ∷ record { field = 1; code = 2; table = 1; outcome = accepted (0 ∷ 0 ∷ []) }
    -- the field is not in the table; no such table; 15 and 16 come first
    ∷ record { field = 1; code = 0; table = 0; outcome = refused 2 21 0 }
    ∷ record { field = 0; code = 0; table = 2; outcome = refused 2 21 0 }
    ∷ record { field = 0; code = 2; table = 2; outcome = refused 2 16 0 }
    ∷ record { field = 3; code = 0; table = 2; outcome = refused 2 15 0 }
    ∷ []

-- With field 1 alone answered, by 1: code 1 of field 0 stands; code 2 of field 1, which its own answer forbids, still has a row
abbrev pub rows_with_one_answer : List RowExample
rows_with_one_answer =
    record { field = 0; code = 1; table = 0; outcome = accepted (1 ∷ 2 ∷ []) } ∷ record { field = 1; code = 2; table = 1; outcome = accepted (1 ∷ 3 ∷ []) } ∷ []

-- In a table of one field: the first row with the code, whatever its field's answer
abbrev pub rows_of_alone : List RowExample
rows_of_alone =
    record { field = 0; code = 1; table = 0; outcome = accepted (1 ∷ 0 ∷ []) } ∷ record { field = 0; code = 0; table = 0; outcome = accepted (0 ∷ 0 ∷ []) } ∷ []

abbrev pub examples : List Example
examples =
    record { book = e1; form = 0 ∷ 1 ∷ 255 ∷ []; read = accepted (3 ∷ 2 ∷ 8 ∷ 7 ∷ []); standing = 1 ∷ 2 ∷ 2 ∷ []; pairs = 0 ∷ 0 ∷ 0 ∷ 1 ∷ 1 ∷ 0 ∷ 1 ∷ 1 ∷ []; listing = accepted (4 ∷ 11 ∷ []); rows = rows_of_e1 }
    ∷ record { book = e1; form = 1 ∷ 0 ∷ 255 ∷ []; read = accepted (3 ∷ 2 ∷ 8 ∷ 7 ∷ []); standing = 0 ∷ 0 ∷ 0 ∷ []; pairs = 0 ∷ 0 ∷ 1 ∷ 1 ∷ 1 ∷ 2 ∷ []; listing = accepted (3 ∷ 17 ∷ []); rows = record { field = 0; code = 1; table = 0; outcome = accepted (0 ∷ 0 ∷ []) } ∷ [] }
    ∷ record { book = e1; form = 255 ∷ 255 ∷ 255 ∷ []; read = accepted (3 ∷ 2 ∷ 8 ∷ 7 ∷ []); standing = 3 ∷ 7 ∷ 7 ∷ []; pairs = []; listing = accepted (0 ∷ 0 ∷ []); rows = [] }
    ∷ record { book = encode e4; form = 255 ∷ 255 ∷ 255 ∷ []; read = accepted (3 ∷ 3 ∷ 6 ∷ 6 ∷ []); standing = 3 ∷ 3 ∷ 3 ∷ []; pairs = []; listing = accepted (0 ∷ 0 ∷ []); rows = [] }
    ∷ record { book = encode e4; form = 0 ∷ 255 ∷ 255 ∷ []; read = accepted (3 ∷ 3 ∷ 6 ∷ 6 ∷ []); standing = 0 ∷ 0 ∷ 0 ∷ []; pairs = 0 ∷ 0 ∷ 0 ∷ 1 ∷ []; listing = accepted (2 ∷ 6 ∷ []); rows = [] }
    ∷ record { book = encode e6; form = 0 ∷ 255 ∷ []; read = accepted (2 ∷ 1 ∷ 0 ∷ 0 ∷ []); standing = 1 ∷ 0 ∷ []; pairs = []; listing = accepted (0 ∷ 5 ∷ []); rows = record { field = 1; code = 0; table = 0; outcome = accepted (0 ∷ 0 ∷ []) } ∷ [] }
    ∷ record { book = e7; form = 0 ∷ []; read = accepted (1 ∷ 0 ∷ 0 ∷ 0 ∷ []); standing = 1 ∷ []; pairs = 0 ∷ 0 ∷ []; listing = accepted (1 ∷ 0 ∷ []); rows = [] }
    ∷ record { book = e8; form = 0 ∷ []; read = refused 4 2 5; standing = []; pairs = []; listing = refused 2 2 5; rows = record { field = 0; code = 0; table = 0; outcome = refused 2 2 5 } ∷ [] }
    -- E1's book with field 1 alone answered
    ∷ record { book = e1; form = 255 ∷ 1 ∷ 255 ∷ []; read = accepted (3 ∷ 2 ∷ 8 ∷ 7 ∷ []); standing = 3 ∷ 2 ∷ 6 ∷ []; pairs = 1 ∷ 0 ∷ 1 ∷ 1 ∷ 1 ∷ 2 ∷ []; listing = accepted (3 ∷ 3 ∷ []); rows = rows_with_one_answer }
    -- nothing stands, and the code that the answer forbids has its first row
    ∷ record { book = encode alone; form = 0 ∷ []; read = accepted (1 ∷ 1 ∷ 2 ∷ 1 ∷ []); standing = 0 ∷ []; pairs = 0 ∷ 1 ∷ []; listing = accepted (1 ∷ 3 ∷ []); rows = rows_of_alone }
    -- no answer can mend the field apart: E1's four alternatives are gone, and each of its three cases has one mark more struck
    ∷ record { book = encode e1_apart; form = 0 ∷ 1 ∷ 255 ∷ 255 ∷ []; read = accepted (4 ∷ 3 ∷ 8 ∷ 7 ∷ []); standing = 1 ∷ 2 ∷ 2 ∷ 0 ∷ []; pairs = []; listing = accepted (0 ∷ 14 ∷ []); rows = [] }
    -- fields 0 and 1 contradict each other: lifting either mends that, lifting field 2 does not, though both its codes stand then
    ∷ record { book = encode two_pairs; form = 0 ∷ 1 ∷ 0 ∷ 255 ∷ []; read = accepted (4 ∷ 2 ∷ 4 ∷ 4 ∷ []); standing = 0 ∷ 0 ∷ 1 ∷ 1 ∷ []; pairs = 0 ∷ 1 ∷ 1 ∷ 0 ∷ []; listing = accepted (2 ∷ 18 ∷ []); rows = [] }
    ∷ []

-- what is asked about a row, as the call answers it
abbrev pub row_answered : List ℕ → Sheet → RowExample → RowExample
row_answered bytes s x = record { field = x.field; code = x.code; table = x.table; outcome = (row_behind bytes s x.field x.code x.table).outcome }

-- the example as the calls answer it: plain filtering into numbers that were 9, alternatives into bytes that were 9
abbrev pub answered : Example → Example
answered e =
    record {
      book = e.book;
      form = e.form;
      read = reading e.book;
      standing = (filtered e.book (loaded e.book e.form).sheet 255 (replicate (length e.standing) 9)).buffer;
      pairs = (alternatives e.book (loaded e.book e.form).sheet (replicate (length e.pairs) 9)).buffer;
      listing = (alternatives e.book (loaded e.book e.form).sheet (replicate (length e.pairs) 9)).outcome;
      rows = map (row_answered e.book (loaded e.book e.form).sheet) e.rows;
    }

abbrev pub ExamplesHold : Type 0
ExamplesHold = map answered examples ≡ examples
