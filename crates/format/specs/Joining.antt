-- Request M-109, "Joining two books": which book two books make together, and what the call answers and leaves in the memory lent, for any
-- input. Assumes nothing.
use Rattle.std.specs.Prelude.{ℕ, ◌<◌, ◌≡◌, ◌⊎◌, ◌↔◌, List, [], ◌∷◌, ◌++◌, map, Bool, true, false, ◌&&◌, ◌||◌, not, length, ltb, leb, eqb}
use Rattle.format.specs.Basics.{pick, In, Pairwise}
use Rattle.format.specs.Format.{Table, Book, table_limit, row_limit, row_total, same_codes, is_in, encode, book_of}
use Rattle.format.specs.Reading.{and_then, verdict}
use Rattle.format.specs.Writing.{Reply, declined, reply_by, into}

-- ---- the book that two books make

-- xs stands before ys: "rising by the first code where they part", "a shorter list before one that continues it"
abbrev pub Precedes : List ℕ → List ℕ → Type 0
Precedes [] [] = ⊥
Precedes [] (y ∷ ys) = Unit {0}
Precedes (x ∷ xs) [] = ⊥
Precedes (x ∷ xs) (y ∷ ys) = (x < y) ⊎ ((x ≡ y) × Precedes xs ys)

-- "Tables rise by their field lists"
abbrev pub TablePrecedes : Table → Table → Type 0
TablePrecedes t u = Precedes t.fields u.fields

-- the set of fields fs occurs in these tables: one of them is on it
pub record Occurs (fs : List ℕ) (ts : List Table) : Type 0 where
  pub table : Table
  pub member : In table ts
  pub on : table.fields ≡ fs

-- row r is "in every table on these fields"
abbrev pub InEvery : List ℕ → List ℕ → List Table → Type 0
InEvery r fs ts = (t : Table) → In t ts → t.fields ≡ fs → In r t.rows

-- j is b and d joined, where b and d have the same field list
pub record IsJoined (b d j : Book) : Type 0 where
  -- "make one book, version 2"
  pub version_2 : j.version ≡ 2
  pub same_counts : j.counts ≡ b.counts
  -- "Each set of fields that occurs in either has one table, and no other set has any." That it has one alone follows from the order
  pub sets : (fs : List ℕ) → Occurs fs j.tables ↔ (Occurs fs b.tables ⊎ Occurs fs d.tables)
  -- "Its rows are those in every table on these fields in either book, each one time, rising by the first code where they part"
  pub rows : (t : Table) → In t j.tables
      → (r : List ℕ) → In r t.rows ↔ (InEvery r t.fields b.tables × InEvery r t.fields d.tables)
  pub rows_rise : (t : Table) → In t j.tables → Pairwise Precedes t.rows
  -- "Tables rise by their field lists, a shorter list before one that continues it"
  pub tables_rise : Pairwise TablePrecedes j.tables

-- ---- computed

-- xs stands before ys
abbrev pub precedes : List ℕ → List ℕ → Bool
precedes [] [] = false
precedes [] (y ∷ ys) = true
precedes (x ∷ xs) [] = false
precedes (x ∷ xs) (y ∷ ys) = ltb x y || (eqb x y && precedes xs ys)

-- x put into lists that rise, unless it stands there
unfoldable pub insert : List ℕ → List (List ℕ) → List (List ℕ)
insert x [] = x ∷ []
insert x (y ∷ ys) = pick (precedes x y) (x ∷ y ∷ ys) (pick (precedes y x) (y ∷ insert x ys) (y ∷ ys))

-- these lists, rising, each one time
unfoldable pub risen : List (List ℕ) → List (List ℕ)
risen [] = []
risen (x ∷ xs) = insert x (risen xs)

-- the rows of these tables that are on these fields, one table behind another
unfoldable pub rows_on : List ℕ → List Table → List (List ℕ)
rows_on fs [] = []
rows_on fs (t ∷ ts) = pick (same_codes t.fields fs) t.rows [] ++ rows_on fs ts

-- each of these tables that is on these fields has the row r
unfoldable pub in_each : List ℕ → List Table → List ℕ → Bool
in_each fs [] r = true
in_each fs (t ∷ ts) r = (not (same_codes t.fields fs) || is_in r t.rows) && in_each fs ts r

-- those lists at which p holds
unfoldable pub keep : (List ℕ → Bool) → List (List ℕ) → List (List ℕ)
keep p [] = []
keep p (x ∷ xs) = pick (p x) (x ∷ keep p xs) (keep p xs)

-- the field lists of tables
abbrev pub field_lists : List Table → List (List ℕ)
field_lists ts = map (λ (t : Table). t.fields) ts

-- the rows in every one of these tables that is on these fields, rising, each one time
unfoldable pub common_rows : List Table → List ℕ → List (List ℕ)
common_rows ts fs = risen (keep (in_each fs ts) (rows_on fs ts))

abbrev pub common_table : List Table → List ℕ → Table
common_table ts fs = record { fields = fs; rows = common_rows ts fs }

-- a table for each set of fields that occurs, rising
unfoldable pub common_tables : List Table → List Table
common_tables ts = map (common_table ts) (risen (field_lists ts))

-- b and d joined
unfoldable pub joined : Book → Book → Book
joined b d = record { version = 2; counts = b.counts; tables = common_tables (b.tables ++ d.tables) }

-- ---- the call

-- no 26: of "a limit of version 2" two books joined can break the number of tables and the number of rows, and no other (JoinLaw, limits)
abbrev pub within_limits : Book → Bool
within_limits j = leb (length j.tables) table_limit && leb (row_total j.tables) row_limit

-- of two accepted books: "25, place 0: code counts differ. 26, place 0: the result breaks a limit of version 2. Then 18, too few bytes lent"
unfoldable pub joined_into : Book → Book → List ℕ → Reply
joined_into b d o =
    pick (same_codes b.counts d.counts)
    (pick (within_limits (joined b d)) (into (encode (joined b d)) o) (declined o 26 0))
    (declined o 25 0)

-- "Refusals of the first book, then of the second, by their numbers"
unfoldable pub joining : List ℕ → List ℕ → List ℕ → Reply
joining s t o = reply_by (and_then (verdict s) (verdict t)) o (joined_into (book_of s) (book_of t) o)
