-- Request M-112, examples: what full readings books have, and what the calls answer of them after a list of calls. Their proofs are in
-- proofs/Examples.antt. Assumes nothing.
use Rattle.std.specs.Prelude.{ℕ, ◌≡◌, ◌↔◌, List, [], ◌∷◌, map, length, get_or, replicate, T}
use Rattle.format.specs.Basics.{In}
use Rattle.format.specs.Format.{Book, encode, book_of}
use Rattle.format.specs.Joining.{keep}
use Rattle.format.specs.Trees.{Tree, tree_reading}
use Rattle.format.specs.Examples.{e1}
use Rattle.consistency.specs.Consistency.{relax}
use Rattle.consistency.specs.Largest.{largest}
use Rattle.consistency.specs.Emptiness.{NoneEmpty}
use Rattle.consistency.specs.Counts.{listed}
use Rattle.consistency.specs.Readings.{Full}
use Rattle.consistency.specs.Nearest.{is_full, readings}
use Rattle.calls.specs.Calls.{filtered, alternatives}
use Rattle.calls.specs.Histories.{Call, enter, photograph, sheet_after}
use Rattle.calls.specs.Examples.{e4, e6}

-- ---- all full readings

-- those of all readings that are full, rising
abbrev pub full_readings : Book → List (List ℕ)
full_readings b = keep (is_full b.tables) (readings b (length b.counts) [])

-- none is left out and no other is there
abbrev pub FullReadingsAre : Type 0
FullReadingsAre = (b : Book) (r : List ℕ) → In r (full_readings b) ↔ Full b r

-- ---- examples

-- a book's bytes and calls from a fresh sheet; the number that reading for the profile answers, 0 for a tree book; the book's full readings; the numbers of
-- plain filtering with nothing lifted and with field 0 lifted; the lines' bytes and the header's total
pub record MeaningExample : Type 0 where
  pub book : List ℕ
  pub calls : List Call
  pub number : ℕ
  pub readings : List (List ℕ)
  pub standing : List ℕ
  pub lifted : List ℕ
  pub pairs : List ℕ
  pub total : ℕ

-- those of E1, which is a tree
abbrev pub readings_of_e1 : List (List ℕ)
readings_of_e1 = (0 ∷ 0 ∷ 0 ∷ []) ∷ (0 ∷ 1 ∷ 1 ∷ []) ∷ (1 ∷ 1 ∷ 2 ∷ []) ∷ (1 ∷ 2 ∷ 2 ∷ []) ∷ []

abbrev pub meaning_examples : List MeaningExample
meaning_examples =
    -- Of E1's four readings 0 1 1 keeps both answers, and shows what stands. Field 0 can change to 1, by 1 1 2; field 1 to 0, by 0 0 0; and each can stay
    record { book = e1; calls = enter 0 0 ∷ enter 1 1 ∷ []; number = 0; readings = readings_of_e1; standing = 1 ∷ 2 ∷ 2 ∷ []; lifted = 3 ∷ 2 ∷ 6 ∷ []; pairs = 0 ∷ 0 ∷ 0 ∷ 1 ∷ 1 ∷ 0 ∷ 1 ∷ 1 ∷ []; total = 4 }
    -- a photograph is an answer to keep, and its field has no line
    ∷ record { book = e1; calls = enter 0 0 ∷ enter 1 1 ∷ photograph 0 ∷ []; number = 0; readings = readings_of_e1; standing = 1 ∷ 2 ∷ 2 ∷ []; lifted = 3 ∷ 2 ∷ 6 ∷ []; pairs = 1 ∷ 0 ∷ 1 ∷ 1 ∷ []; total = 2 }
    -- no reading keeps 1 and 0, so some field is empty; 0 0 0 keeps the second, 1 1 2 and 1 2 2 the first
    ∷ record { book = e1; calls = enter 0 1 ∷ enter 1 0 ∷ []; number = 0; readings = readings_of_e1; standing = 0 ∷ 0 ∷ 0 ∷ []; lifted = 1 ∷ 1 ∷ 1 ∷ []; pairs = 0 ∷ 0 ∷ 1 ∷ 1 ∷ 1 ∷ 2 ∷ []; total = 3 }
    -- E4, a ring: all codes stand and no reading is full; with an answer, two codes are listed that are in none
    ∷ record { book = encode e4; calls = []; number = 29; readings = []; standing = 3 ∷ 3 ∷ 3 ∷ []; lifted = []; pairs = []; total = 0 }
    ∷ record { book = encode e4; calls = enter 0 0 ∷ []; number = 29; readings = []; standing = 0 ∷ 0 ∷ 0 ∷ []; lifted = 3 ∷ 3 ∷ 3 ∷ []; pairs = 0 ∷ 0 ∷ 0 ∷ 1 ∷ []; total = 2 }
    -- E6, a tree: with field 0 lifted both its codes stand, field 1 is empty and no reading is full. So they must not be listed
    ∷ record { book = encode e6; calls = enter 0 0 ∷ []; number = 0; readings = []; standing = 1 ∷ 0 ∷ []; lifted = 3 ∷ 0 ∷ []; pairs = []; total = 0 }
    ∷ []

-- the example as the definitions and the calls answer it, with numbers and bytes lent that were 9
abbrev pub meant : MeaningExample → MeaningExample
meant e =
    record {
      book = e.book;
      calls = e.calls;
      number = (tree_reading e.book).number;
      readings = full_readings (book_of e.book);
      standing = (filtered e.book (sheet_after e.book e.calls) 255 (replicate (length e.standing) 9)).buffer;
      lifted = (filtered e.book (sheet_after e.book e.calls) 0 (replicate (length e.lifted) 9)).buffer;
      pairs = (alternatives e.book (sheet_after e.book e.calls) (replicate (length e.pairs) 9)).buffer;
      total = get_or (alternatives e.book (sheet_after e.book e.calls) (replicate (length e.pairs) 9)).outcome.counts 0 0;
    }

abbrev pub MeaningExamplesHold : Type 0
MeaningExamplesHold = map meant meaning_examples ≡ meaning_examples

pub record WhyTrees : Type 0 where
  -- "E4 shows why a ring is left out": no field is empty, and neither sentence holds
  pub e4_ring : Tree e4 → ⊥
  pub e4_none_empty : NoneEmpty e4 (largest e4 [])
  pub e4_standing : T (largest e4 [] 0 0)
  pub e4_listed : T (listed e4 (0 ∷ []) 0 0)
  pub e4_no_reading : (r : List ℕ) → Full e4 r → ⊥
  -- E6 shows why codes are listed "only if, with it lifted, no field at all is empty" (02, M-101): it is a tree, and a code that stands there has no reading
  pub e6_tree : Tree e6
  pub e6_lifted : T (largest e6 (relax (0 ∷ []) 0) 0 0)
  pub e6_no_reading : (r : List ℕ) → Full e6 r → ⊥
