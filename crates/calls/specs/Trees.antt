-- Document 02, M-111: alike books and the profile of tree books, and examples. Its proofs are trees_alike (proofs/TreesAlike.antt) and
-- tree_examples_lem (proofs/TreeExamples.antt). Assumes nothing.
use Rattle.std.specs.Prelude.{ℕ, ◌≡◌, List, [], ◌∷◌, ◌++◌, map, replicate}
use Rattle.format.specs.Format.{Book, of_version, encode, book_of}
use Rattle.format.specs.Reading.{Outcome, accepted, refused, Accepted}
use Rattle.format.specs.Listing.{listing_of}
use Rattle.format.specs.Trees.{tree_reading, tree_writing}
use Rattle.format.specs.Examples.{e1}
use Rattle.consistency.specs.Alike.{Alike}
use Rattle.calls.specs.Examples.{differing, e4, e7, e8}

-- alike books are both trees, or are refused by the same number. Its place may be another, as what is counted: their tables stand in another order
abbrev pub TreesAlike : Type 0
TreesAlike =
    (s s' : List ℕ) → Accepted s → Accepted s' → Alike (book_of s) (book_of s') → (tree_reading s).number ≡ (tree_reading s').number

-- ---- examples

-- a forest: three fields in a row, a table of one field, a table without rows
abbrev pub forest : Book
forest =
    record {
      version = 1;
      counts = 2 ∷ 2 ∷ 2 ∷ 2 ∷ [];
      tables = record { fields = 0 ∷ 1 ∷ []; rows = differing } ∷ record { fields = 2 ∷ []; rows = (1 ∷ []) ∷ [] } ∷ record { fields = 1 ∷ 2 ∷ []; rows = [] } ∷ [];
    }

-- "two tables on the same pair are a ring", also where the first has no rows; a table of one of its fields stands between them
abbrev pub twins : Book
twins =
    record {
      version = 1;
      counts = 2 ∷ 2 ∷ [];
      tables = record { fields = 0 ∷ 1 ∷ []; rows = [] } ∷ record { fields = 1 ∷ []; rows = [] } ∷ record { fields = 0 ∷ 1 ∷ []; rows = differing } ∷ [];
    }

-- such a pair, and behind it a table of three fields
abbrev pub wide : Book
wide =
    record {
      version = 1;
      counts = 2 ∷ 2 ∷ 2 ∷ [];
      tables = record { fields = 0 ∷ 1 ∷ []; rows = [] } ∷ record { fields = 0 ∷ 1 ∷ []; rows = [] } ∷ record { fields = 0 ∷ 1 ∷ 2 ∷ []; rows = [] } ∷ [];
    }

-- a book's bytes, and what reading for the profile answers
pub record TreeExample : Type 0 where
  pub book : List ℕ
  pub outcome : Outcome

abbrev pub tree_examples : List TreeExample
tree_examples =
    -- E1, E7 and the forest are trees, of version 2 too
    record { book = e1; outcome = accepted (3 ∷ 2 ∷ 8 ∷ 7 ∷ []) }
    ∷ record { book = e7; outcome = accepted (1 ∷ 0 ∷ 0 ∷ 0 ∷ []) }
    ∷ record { book = encode forest; outcome = accepted (4 ∷ 3 ∷ 3 ∷ 3 ∷ []) }
    ∷ record { book = encode (of_version 2 forest); outcome = accepted (4 ∷ 3 ∷ 3 ∷ 3 ∷ []) }
    -- E4 is refused at its third table
    ∷ record { book = encode e4; outcome = refused 4 29 18 }
    ∷ record { book = encode (of_version 2 e4); outcome = refused 4 29 18 }
    ∷ record { book = encode twins; outcome = refused 4 29 9 }
    -- 28 before 29, 1 to 13 before 28
    ∷ record { book = encode wide; outcome = refused 4 28 10 }
    ∷ record { book = encode (of_version 3 wide); outcome = refused 4 3 23 }
    ∷ record { book = e8; outcome = refused 4 2 5 }
    ∷ []

abbrev pub tree_answered : TreeExample → TreeExample
tree_answered e = record { book = e.book; outcome = tree_reading e.book }

-- a listing and the number of bytes lent, each 9; the outcome
pub record TreeWriteExample : Type 0 where
  pub listing : List ℕ
  pub lent : ℕ
  pub outcome : Outcome

-- bytes enough, and one less; 29 and 28 before 18; 28 before 29; 20 before both
abbrev pub tree_write_examples : List TreeWriteExample
tree_write_examples =
    record { listing = listing_of forest; lent = 29; outcome = accepted (29 ∷ []) }
    ∷ record { listing = listing_of forest; lent = 28; outcome = refused 1 18 0 }
    ∷ record { listing = listing_of e4; lent = 0; outcome = refused 1 29 0 }
    ∷ record { listing = listing_of wide; lent = 0; outcome = refused 1 28 0 }
    ∷ record { listing = listing_of wide ++ 1 ∷ []; lent = 0; outcome = refused 1 20 0 }
    ∷ []

abbrev pub tree_written : TreeWriteExample → TreeWriteExample
tree_written e = record { listing = e.listing; lent = e.lent; outcome = (tree_writing e.listing (replicate e.lent 9)).outcome }

pub record TreeExamplesHold : Type 0 where
  pub read : map tree_answered tree_examples ≡ tree_examples
  pub written : map tree_written tree_write_examples ≡ tree_write_examples
  -- what is written of a tree is its bytes, and what stands behind them stays
  pub bytes : (tree_writing (listing_of forest) (replicate 30 9)).buffer ≡ encode forest ++ 9 ∷ []
