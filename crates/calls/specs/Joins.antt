-- Document 02, M-109: what the call that joins two books promises, and examples. Its proofs are request109 (proofs/JoinedBytes.antt) and
-- join_examples_lem (proofs/JoinExamples.antt). Assumes nothing.
use Rattle.std.specs.Prelude.{ℕ, zero, suc, ◌≤◌, ◌≡◌, ◌↔◌, List, [], ◌∷◌, ◌++◌, map, length, replicate}
use Rattle.format.specs.Format.{Table, Book, field_most, of_version, WellFormed, encode, book_of}
use Rattle.format.specs.Reading.{Outcome, accepted, refused, Accepted}
use Rattle.format.specs.Writing.{into, written}
use Rattle.format.specs.Joining.{IsJoined, joined, joining}
use Rattle.format.specs.JoinedBooks.{Ordered}
use Rattle.format.specs.Examples.{e1, e1'}
use Rattle.consistency.specs.Consistency.{Standing}
use Rattle.consistency.specs.Alike.{Alike}
use Rattle.consistency.specs.Readings.{Full}
use Rattle.calls.specs.Examples.{e7, e8}

-- the two books that these bytes hold, joined
abbrev pub both_joined : List ℕ → List ℕ → Book
both_joined s t = joined (book_of s) (book_of t)

-- the bytes w hold the books of s and t joined
pub record Joins (s t w : List ℕ) : Type 0 where
  -- "make one book": every other call accepts it
  pub accepts : Accepted w
  pub is : IsJoined (book_of s) (book_of t) (book_of w)
  -- no other book's bytes do
  pub only : (j : Book) → IsJoined (book_of s) (book_of t) j → w ≡ encode j
  -- "A full reading fits the joined book exactly when it fits both"
  pub full : (r : List ℕ) → Full (book_of w) r ↔ (Full (book_of s) r × Full (book_of t) r)
  -- "A code standing under a sheet in the joined book stands in each"
  pub standing : (a : List ℕ) (f c : ℕ) → Standing (book_of w) a f c → Standing (book_of s) a f c × Standing (book_of t) a f c

pub record Request109 : Type 0 where
  -- no other condition turns the call down
  pub accepts_exactly : (s t o : List ℕ)
      → ((joining s t o).outcome.number ≡ 0)
      ↔ (Accepted s × Accepted t × ((book_of t).counts ≡ (book_of s).counts) × WellFormed (both_joined s t) × (length (encode (both_joined s t)) ≤ length o))
  -- what it writes, and nothing else
  pub writes : (s t o : List ℕ) → (joining s t o).outcome.number ≡ 0 → joining s t o ≡ into (encode (both_joined s t)) o
  pub joins : (s t o : List ℕ) → (joining s t o).outcome.number ≡ 0 → Joins s t (written (joining s t o))
  -- either way round; "a book without repeats, sorted, gives itself as version 2"; so does each that was joined
  pub either_way : (s t o : List ℕ) → Accepted s → Accepted t → joining t s o ≡ joining s t o
  pub itself : (s o : List ℕ) → Accepted s → Ordered (book_of s) → joining s s o ≡ into (encode (of_version 2 (book_of s))) o
  pub again : (s t o o' : List ℕ) → (joining s t o).outcome.number ≡ 0
      → joining (written (joining s t o)) (written (joining s t o)) o' ≡ into (written (joining s t o)) o'
  -- alike books give the same
  pub alike : (s s' t t' : List ℕ) → Accepted s → Accepted s' → Accepted t → Accepted t'
      → Alike (book_of s) (book_of s') → Alike (book_of t) (book_of t') → (o : List ℕ) → joining s t o ≡ joining s' t' o

-- ---- examples

abbrev pub table : List ℕ → List (List ℕ) → Table
table fs rs = record { fields = fs; rows = rs }

-- three fields of two, three and three codes: a table on 1; two on 0 1, of which the second has a row less and another twice; one on 0
abbrev pub one : Book
one =
    record {
      version = 1;
      counts = 2 ∷ 3 ∷ 3 ∷ [];
      tables = table (1 ∷ []) ((2 ∷ []) ∷ (0 ∷ []) ∷ []) ∷ table (0 ∷ 1 ∷ []) ((1 ∷ 2 ∷ []) ∷ (0 ∷ 1 ∷ []) ∷ (0 ∷ 0 ∷ []) ∷ [])
          ∷ table (0 ∷ 1 ∷ []) ((0 ∷ 0 ∷ []) ∷ (1 ∷ 2 ∷ []) ∷ (0 ∷ 0 ∷ []) ∷ []) ∷ table (0 ∷ []) ((1 ∷ []) ∷ []) ∷ [];
    }

-- tables on 0, with no row of the first book's; and on 0 1 2
abbrev pub two : Book
two =
    record {
      version = 1;
      counts = 2 ∷ 3 ∷ 3 ∷ [];
      tables = table (0 ∷ []) ((0 ∷ []) ∷ []) ∷ table (0 ∷ 1 ∷ 2 ∷ []) ((1 ∷ 1 ∷ 1 ∷ []) ∷ []) ∷ [];
    }

-- a shorter list before one that continues it; a table without rows stays; repeats go; rows and tables rise
abbrev pub one_two : Book
one_two =
    record {
      version = 2;
      counts = 2 ∷ 3 ∷ 3 ∷ [];
      tables = table (0 ∷ []) [] ∷ table (0 ∷ 1 ∷ []) ((0 ∷ 0 ∷ []) ∷ (1 ∷ 2 ∷ []) ∷ [])
          ∷ table (0 ∷ 1 ∷ 2 ∷ []) ((1 ∷ 1 ∷ 1 ∷ []) ∷ []) ∷ table (1 ∷ []) ((0 ∷ []) ∷ (2 ∷ []) ∷ []) ∷ [];
    }

-- E1 joined with itself in another order: its tables and rows rise already, its repeated row stands once, and its version is 2
abbrev pub e1_joined : List ℕ
e1_joined =
    0x02 ∷ 0x00 ∷ 0x02 ∷ 0x03 ∷ 0x00 ∷ 0x00 ∷ 0x00 ∷ 0x00 ∷ 0x01 ∷ 0x01 ∷ 0x02
    ∷ 0x02 ∷ 0x01 ∷ 0x02 ∷ 0x04 ∷ 0x00 ∷ 0x00 ∷ 0x00 ∷ 0x01 ∷ 0x01 ∷ 0x01 ∷ 0x02 ∷ 0x02 ∷ 0x02
    ∷ 0x02 ∷ 0x03 ∷ 0x03 ∷ 0x18 ∷ 0x00 ∷ 0x03 ∷ 0x02 ∷ 0x02 ∷ 0xE5 ∷ []

-- tables without rows on each of n fields
abbrev pub singles : ℕ → List Table
singles zero = []
singles (suc n) = table (n ∷ []) [] ∷ singles n

-- tables without rows on field 0 and each of the n fields behind it
abbrev pub pairs : ℕ → List Table
pairs zero = []
pairs (suc n) = table (0 ∷ suc n ∷ []) [] ∷ pairs n

-- the bytes of a book with these tables and as many fields as there can be, of one code each
abbrev pub bare : List Table → List ℕ
bare ts = encode record { version = 2; counts = replicate field_most 1; tables = ts }

-- two books' bytes and the number of bytes lent, each 9; the outcome
pub record JoinExample : Type 0 where
  pub first : List ℕ
  pub second : List ℕ
  pub lent : ℕ
  pub outcome : Outcome

-- bytes enough, and one less; other code counts, before too few bytes; the second book refused, before other code counts; the first, before
-- the second; 64 sets of fields in both together, and 65, before too few bytes
abbrev pub join_examples : List JoinExample
join_examples =
    record { first = e1; second = e1'; lent = 33; outcome = accepted (33 ∷ []) }
    ∷ record { first = e1; second = e1'; lent = 32; outcome = refused 1 18 0 }
    ∷ record { first = e1; second = e7; lent = 0; outcome = refused 1 25 0 }
    ∷ record { first = e1; second = e8; lent = 0; outcome = refused 1 2 5 }
    ∷ record { first = []; second = e8; lent = 0; outcome = refused 1 1 0 }
    ∷ record { first = bare (singles 60 ++ pairs 3); second = bare (pairs 4); lent = 326; outcome = accepted (326 ∷ []) }
    ∷ record { first = bare (singles 60 ++ pairs 3); second = bare (pairs 5); lent = 0; outcome = refused 1 26 0 }
    ∷ []

-- the example as the call answers it
abbrev pub join_answered : JoinExample → JoinExample
join_answered e =
    record {
      first = e.first;
      second = e.second;
      lent = e.lent;
      outcome = (joining e.first e.second (replicate e.lent 9)).outcome;
    }

pub record JoinExamplesHold : Type 0 where
  pub books : joined one two ≡ one_two
  pub bytes : (joining e1 e1' (replicate 34 9)).buffer ≡ e1_joined ++ (9 ∷ [])
  pub answers : map join_answered join_examples ≡ join_examples
