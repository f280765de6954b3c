-- The rows of a table lie within the bytes, and are few; and what the tables' different rows come to. Assumes nothing.
use mathlib.Core.Path.{◌≡◌, refl, sym, ap, ◌∙◌}
use mathlib.Core.List.{List, [], ◌∷◌, map}
use Prim.Native.Nat.{ℕ, zero, suc, ◌+◌, ◌≤◌, ◌<◌}
use native.Mathlib.Omega.{arith}
use lib.ListN.{length, get_or, drop}
use Rattle.format.specs.Format.{Table, row_limit, byte, arity_at, rows_of, first_row, part, rows_at, table_at, different, different_total, row_total, book_of}
use Rattle.format.specs.Promise.{place, field_at}
use Rattle.format.proofs.Views.{no_table, tables_count, table_view, table_rows}
use Rattle.format.proofs.Views.{part_at}
use Rattle.std.specs.Prelude.{◌*◌, ◌/◌}
use Rattle.book.specs.Bounds.{RowsFit}
use Rattle.book.proofs.Gathered.{row_at, row_fits, first_word}
use Rattle.words.specs.RowWord.{row_word, words_at}
use Rattle.book.specs.View.{TableIn}
use Rattle.std.specs.Borrow.{Bor}
use Rattle.book.specs.Listed.{rows_in}
use Rattle.book.specs.declared.view.Book.{Book}
use Rattle.book.specs.declared.view.Table as view
use Rattle.book.specs.declared.view.Tables.{Tables}
use Rattle.book.proofs.WalkSteps.{Stepped, tables_from}

-- a table has at most the rows of all
rows_of_all : (ts : List Table) (i : ℕ) → i < length ts → length (get_or ts i no_table).rows ≤ row_total ts
rows_of_all [] i h = absurd (omega arith)
rows_of_all (t ∷ ts) zero h = omega arith
rows_of_all (t ∷ ts) (suc i) h = omega (arith, rows_of_all ts i (omega arith))

module _ {s : List ℕ} {i at a p n : ℕ} (t : TableIn s i at a p n) where
  rows_are : n ≡ length (get_or (book_of s).tables i no_table).rows
  rows_are = t.rows_is ∙ (ap (rows_of s) t.table.at_is ∙ (sym (table_rows s (place s i)) ∙ ap (λ (x : Table). length x.rows) (sym (table_view s no_table i t.table.within))))

  -- its rows are among all rows, and so few
  pub rows_within : n ≤ row_total (book_of s).tables
  rows_within = omega (arith, rows_are, rows_of_all (book_of s).tables i (omega (arith, tables_count s, t.table.within)))

  pub rows_few : n ≤ row_limit
  rows_few = omega (arith, rows_within, t.table.promise.rows_few)

  -- they lie within the bytes
  at_place : RowsFit s (arity_at s (place s i)) (first_row s (place s i)) (rows_of s (place s i))
  at_place =
      let promise = t.table.promise in
      let q = promise.tables i t.table.within in
      record {
        some = q.some;
        few = q.few;
        within = omega (arith, q.ends, promise.whole);
        codes = λ r j k l. omega (arith, q.codes r j k l, (promise.sized (field_at s (place s i) j) (q.known j l)).1);
      }

  pub rows_fit : RowsFit s a p n
  rows_fit = rw (t.arity_is, t.first_is, t.rows_is, t.table.at_is) at_place

  view_rows : rows_at s a p n ≡ (table_at s at).rows
  unfolding table_at
  view_rows =
      ap (λ (x : ℕ). rows_at s x p n) t.arity_is ∙ ap (λ (x : ℕ). rows_at s (arity_at s at) x n) t.first_is
      ∙ ap (rows_at s (arity_at s at) (first_row s at)) t.rows_is

  -- their words
  pub view_words : map row_word (table_at s at).rows ≡ words_at s a p n
  view_words = sym (ap (map row_word) view_rows)

  -- one of them
  module _ (k : ℕ) (h : k < n) where
    pub view_row : part s (p + k * a) a ≡ get_or (table_at s at).rows k []
    view_row = sym (row_at s a p n k h) ∙ ap (λ (rows : List (List ℕ)). get_or rows k []) view_rows

    pub row_ends : p + k * a + a ≤ length s
    row_ends = omega (arith, (row_fits s a p n rows_fit k _ h refl).within, rows_fit.few)

    -- its first code is the highest byte of its word
    pub view_first : get_or (get_or (table_at s at).rows k []) 0 0 ≡ get_or (words_at s a p n) k 0 / 16777216
    view_first =
        rw (← view_row)
        (part_at s (p + k * a) a 0 rows_fit.some ∙ (ap (byte s) (omega arith) ∙ sym (first_word s a p n rows_fit k h)))

  -- its field numbers
  pub view_fields : part s (at + 1) a ≡ (table_at s at).fields
  unfolding table_at
  view_fields = ap (part s (at + 1)) t.arity_is

  pub view_key : row_word (part s (at + 1) a) ≡ row_word (table_at s at).fields
  view_key = ap row_word view_fields

  -- the different rows of the tables from this one on are its own and those of the tables behind it
  pub different_on : different_total (drop i (book_of s).tables) ≡ different (rows_at s a p n) + different_total (drop (i + 1) (book_of s).tables)
  unfolding table_at
  different_on = ap different_total (tables_from s i at a p n t) ∙ rw (t.arity_is, t.first_is, t.rows_is)

-- a step of the walk moves a table's different rows from what is left to the total
pub total_on : {b : Book} {i : ℕ} {table : view.Table} {new : Tables} (total : ℕ) {r whole : ℕ} → Stepped b i table new → r ≡ different (rows_in table)
    → total + different_total (drop i (book_of b.bytes.now).tables) ≡ whole → total + r + different_total (drop new.index (book_of b.bytes.now).tables) ≡ whole
total_on {b} {i} {table} total st e w =
    let here : different (rows_in table) ≡ different (rows_at b.bytes.now table.arity table.first table.rows) =
    ap (λ (x : Bor (List ℕ)). different (rows_at x.now table.arity table.first table.rows)) st.bytes in
    rw st.next (omega (arith, w, e, here, different_on st.table_in))
