-- What the book that bytes hold says, by places in the bytes; its tables stand one behind another, and a table's fields rise. Assumes nothing.
use mathlib.Core.Path.{◌≡◌, refl, sym, ap, ◌∙◌, subst}
use mathlib.Core.Logic.{⊎_elim, ◌≢◌}
use mathlib.Core.List.{List, []}
use Prim.Native.Nat.{ℕ, zero, suc, ◌+◌, ◌*◌, ◌≤◌, ◌<◌}
use native.Mathlib.Nat.{zero-add, add-zero, suc-mul, zero-mul, le_refl, le_trans, le_of_suc-le-suc, not-suc-le-zero, eq-or-lt_of_le}
use native.Mathlib.Numerals.{add-one}
use native.Mathlib.Decide.{dec_lt}
use native.Mathlib.Omega.{arith}
use lib.ListN.{length, get_or, drop, length-drop}
use lib.Seq.{get_or-take, get_or-drop, length-take-le}
use Rattle.format.specs.Format.{Table, byte, part, list_place, field_count, table_count, arity_at, rows_of, first_row, table_end, rows_at, table_at, tables_at, book_of}
use Rattle.format.specs.Promise.{TablePromise, place, field_at, code_at, count_at}

-- what stands behind the end of a list of tables
abbrev pub no_table : Table
no_table = record { fields = []; rows = [] }

-- an element of a part
pub part_at : (s : List ℕ) (i n j : ℕ) → j < n → get_or (part s i n) j 0 ≡ byte s (i + j)
part_at s i n j h = get_or-take n (drop i s) j 0 h ∙ get_or-drop i s j 0

-- a part that ends within the bytes has its length
pub part_length : (s : List ℕ) (i n : ℕ) → i + n ≤ length s → length (part s i n) ≡ n
part_length s i n h = length-take-le n (drop i s) (omega (arith, length-drop i s))

-- n rows are n rows
pub rows_count : (s : List ℕ) (a p n : ℕ) → length (rows_at s a p n) ≡ n
unfolding rows_at
rows_count s a p zero = refl
rows_count s a p (suc n) = ap suc (rows_count s a (p + a) n)

-- the code of row r in column j
rows_code : (s : List ℕ) (a p n r j : ℕ) → r < n → j < a → get_or (get_or (rows_at s a p n) r []) j 0 ≡ byte s (p + r * a + j)
unfolding rows_at
rows_code s a p zero r j h k = absurd (omega arith)
rows_code s a p (suc n) zero j h k = part_at s p a j k ∙ ap (λ (x : ℕ). byte s x) (omega (arith, zero-mul a))
rows_code s a p (suc n) (suc r) j h k =
    rows_code s a (p + a) n r j (omega arith) k ∙ ap (λ (x : ℕ). byte s x) (omega (arith, suc-mul r a))

-- each row has a codes, where the bytes reach to the end of the rows
rows_width : (s : List ℕ) (a p n r : ℕ) → r < n → p + n * a ≤ length s → length (get_or (rows_at s a p n) r []) ≡ a
unfolding rows_at
rows_width s a p zero r h e = absurd (omega arith)
rows_width s a p (suc n) zero h e = part_length s p a (omega (arith, suc-mul n a))
rows_width s a p (suc n) (suc r) h e = rows_width s a (p + a) n r (omega arith) (omega (arith, suc-mul n a))

-- n tables are n tables
pub tables_length : (s : List ℕ) (p n : ℕ) → length (tables_at s p n) ≡ n
unfolding tables_at
tables_length s p zero = refl
tables_length s p (suc n) = ap suc (tables_length s (table_end s p) n)

-- of the tables from table k on
tables_get : (s : List ℕ) (z : Table) (n k i : ℕ) → i < n → get_or (tables_at s (place s k) n) i z ≡ table_at s (place s (k + i))
unfolding tables_at place
tables_get s z zero k i h = absurd (omega arith)
tables_get s z (suc n) k zero h = rw add-zero
tables_get s z (suc n) k (suc i) h =
    let e : k + suc i ≡ suc k + i = omega arith in
    rw e (tables_get s z n (suc k) i (omega arith))

module _ (s : List ℕ) where
  -- the book has as many tables as the trailer says
  pub tables_count : length (book_of s).tables ≡ table_count s
  unfolding book_of
  tables_count = tables_length s 0 (table_count s)

  -- table i of the book is the table at its place
  pub table_view : (z : Table) (i : ℕ) → i < table_count s → get_or (book_of s).tables i z ≡ table_at s (place s i)
  unfolding book_of place
  table_view z i h = tables_get s z (table_count s) 0 i h ∙ ap (λ (x : ℕ). table_at s (place s x)) (zero-add i)

  -- the book has as many fields as the trailer says
  pub counts_count : list_place s + field_count s + 6 ≡ length s → length (book_of s).counts ≡ field_count s
  unfolding book_of
  counts_count e = part_length s (list_place s) (field_count s) (omega arith)

  -- the book's number of codes of field f
  pub counts_view : (f : ℕ) → f < field_count s → get_or (book_of s).counts f 0 ≡ count_at s f
  unfolding book_of
  counts_view f h = part_at s (list_place s) (field_count s) f h

  -- a place lies before the places behind it, with room for its table
  pub places_rise : (i k : ℕ) → i < k → table_end s (place s i) ≤ place s k
  unfolding place
  places_rise i zero h = absurd (omega arith)
  places_rise i (suc k) h =
      ⊎_elim (λ e. let d : i ≡ k = omega arith in rw d (le_refl _))
      (λ l. omega (arith, places_rise i k (omega arith)))
      (eq-or-lt_of_le h)

  module _ (p : ℕ) where
    -- the table at p has as many rows as it says
    pub table_rows : length (table_at s p).rows ≡ rows_of s p
    unfolding table_at
    table_rows = rows_count s (arity_at s p) (first_row s p) (rows_of s p)

    -- each of its rows has a code for each field, where the bytes reach to its end
    pub table_row_length : (r : ℕ) → r < rows_of s p → table_end s p ≤ length s → length (get_or (table_at s p).rows r []) ≡ arity_at s p
    unfolding table_at
    table_row_length r h e = rows_width s (arity_at s p) (first_row s p) (rows_of s p) r h e

    -- the code of row r in column j of the table at p
    pub table_code : (r j : ℕ) → r < rows_of s p → j < arity_at s p → get_or (get_or (table_at s p).rows r []) j 0 ≡ code_at s p r j
    unfolding table_at
    table_code r j h k = rows_code s (arity_at s p) (first_row s p) (rows_of s p) r j h k

    -- the field number of column j of the table at p
    pub table_field : (j : ℕ) → j < arity_at s p → get_or (table_at s p).fields j 0 ≡ field_at s p j
    unfolding table_at
    table_field j h = part_at s (p + 1) (arity_at s p) j h

    -- the table at p has as many fields as it says, where the bytes reach to its first row
    pub table_arity : first_row s p ≤ length s → length (table_at s p).fields ≡ arity_at s p
    unfolding table_at
    table_arity h = part_length s (p + 1) (arity_at s p) (omega arith)

    module _ (q : TablePromise s p) where
      -- its fields rise
      fields_rise : (i l : ℕ) → i < l → l < arity_at s p → field_at s p i < field_at s p l
      fields_rise i zero h m = absurd (not-suc-le-zero h)
      fields_rise i (suc l) h m =
          let step : field_at s p l < field_at s p (suc l) =
          subst (λ (x : ℕ). field_at s p l < field_at s p x) (add-one l) (q.rising l (omega arith)) in
          ⊎_elim (λ (e : i ≡ l). subst (λ (x : ℕ). field_at s p x < field_at s p (suc l)) (sym e) step)
          (λ (k : i < l). le_trans (fields_rise i l k (omega arith)) (omega arith)) (eq-or-lt_of_le (le_of_suc-le-suc h))

      -- so those of two columns differ
      pub fields_apart : (i l : ℕ) → i < arity_at s p → l < arity_at s p → i ≢ l → field_at s p i ≢ field_at s p l
      fields_apart i l il ll n e = go (dec_lt i l)
        where
          go : Dec (i < l) → ⊥
          go (yes h) = let r : field_at s p i < field_at s p l = fields_rise i l h ll in omega arith
          go (no h) = let r : field_at s p l < field_at s p i = fields_rise l i (omega arith) il in omega arith
