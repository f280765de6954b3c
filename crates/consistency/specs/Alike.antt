-- Document 01, "The book's bytes": when two books are alike, that a row repeated has no further effect, and that books which
-- differ in their version alone are alike. Assumes nothing.
use Rattle.std.specs.Prelude.{ℕ, zero, suc, ◌<◌, ◌≡◌, ◌≢◌, List, [], ◌∷◌, length, get_or, set}
use Rattle.format.specs.Format.{Table, Book, of_version, WellFormed}
use Rattle.consistency.specs.Consistency.{nth}

-- each row of t stands in u
abbrev pub RowsIn : Table → Table → Type 0
RowsIn t u = (r : ℕ) → r < length t.rows → (q : ℕ) × (q < length u.rows) × (get_or u.rows q [] ≡ get_or t.rows r [])

-- "both tables of a pair have the same field numbers and each row of either stands in the other too"
pub record AlikeTables (t u : Table) : Type 0 where
  pub same_fields : u.fields ≡ t.fields
  pub there : RowsIn t u
  pub back : RowsIn u t

-- "their field lists are equal and their tables can be paired one to one": table i of b with table `to i` of d
pub record Alike (b d : Book) : Type 0 where
  pub same_counts : d.counts ≡ b.counts
  pub to : ℕ → ℕ
  pub from : ℕ → ℕ
  pub to_in : (i : ℕ) → i < length b.tables → to i < length d.tables
  pub from_in : (i : ℕ) → i < length d.tables → from i < length b.tables
  pub from_to : (i : ℕ) → i < length b.tables → from (to i) ≡ i
  pub to_from : (i : ℕ) → i < length d.tables → to (from i) ≡ i
  pub pairs : (i : ℕ) → i < length b.tables → AlikeTables (nth b i) (nth d (to i))

-- ---- "A row repeated in its table has no further effect"

-- a list without what stands at place r
abbrev pub drop_at : {A : Type 0} → ℕ → List A → List A
drop_at r [] = []
drop_at zero (x ∷ xs) = xs
drop_at (suc r) (x ∷ xs) = x ∷ drop_at r xs

-- b without row r of its table i
abbrev pub without_row : Book → ℕ → ℕ → Book
without_row b i r =
    record {
      version = b.version;
      counts = b.counts;
      tables = set b.tables i (record { fields = (nth b i).fields; rows = drop_at r (nth b i).rows });
    }

-- row r of table i stands in that table at another place too
pub record Repeated (b : Book) (i r : ℕ) : Type 0 where
  pub table_in : i < length b.tables
  pub row_in : r < length (nth b i).rows
  pub other : ℕ
  pub other_in : other < length (nth b i).rows
  pub elsewhere : other ≢ r
  pub same : get_or (nth b i).rows other [] ≡ get_or (nth b i).rows r []

-- the book without such a row is alike, and well-formed if b is
pub record WithoutEffect (b : Book) (i r : ℕ) : Type 0 where
  pub alike : Alike b (without_row b i r)
  pub well : WellFormed b → WellFormed (without_row b i r)

abbrev pub NoFurtherEffect : Type 0
NoFurtherEffect = (b : Book) (i r : ℕ) → Repeated b i r → WithoutEffect b i r

-- ---- Request M-103: "All that is promised holds for both versions"

-- a book is alike to the same book of another version: what alike books share, the two share
abbrev pub VersionsAlike : Type 0
VersionsAlike = (b : Book) (v : ℕ) → Alike b (of_version v b)
