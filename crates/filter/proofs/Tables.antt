-- A table of an accepted book: where its fields stand in the bytes, and how large its fields and codes are. Assumes nothing.
use mathlib.Core.Path.{◌≡◌, sym, ap, ◌∙◌, subst}
use mathlib.Core.Logic.{◌≢◌}
use mathlib.Core.List.{List}
use Prim.Native.Nat.{ℕ, ◌+◌, ◌<◌}
use native.Mathlib.Omega.{arith}
use lib.ListN.{length, get_or}
use Rattle.format.specs.Format.{code_limit, byte, field_count, table_count, arity_at, table_at, book_of}
use Rattle.format.specs.Promise.{place, code_at, field_at, count_at}
use Rattle.format.proofs.Views.{no_table, tables_count, table_view, table_rows, table_code, table_field, fields_apart as table-fields-apart}
use Rattle.consistency.specs.Consistency.{field_of, code_of, nth}
use Rattle.book.specs.View.{TableIn}
use Rattle.book.proofs.TableFields.{promised, fields_many}

-- table i of the book is the table at its place
pub nth_at : (s : List ℕ) (i at : ℕ) → i < table_count s → at ≡ place s i → nth (book_of s) i ≡ table_at s at
nth_at s i at l e = table_view s no_table i l ∙ ap (table_at s) (sym e)

module _ {s : List ℕ} {index at arity first rows : ℕ} (q : TableIn s index at arity first rows) where
  -- its rows are as many as the view says
  pub rows_of_lem : length (table_at s at).rows ≡ rows
  rows_of_lem = table_rows s at ∙ sym q.rows_is

  -- the bytes behind its place are its fields
  pub field_is : (i : ℕ) → i < arity → byte s (at + 1 + i) ≡ field_of (table_at s at) i
  field_is i l = sym (table_field s at i (omega (arith, q.arity_is)))

  -- a column's field is one of the book's
  pub field_known : (i : ℕ) → i < arity → field_of (table_at s at) i < field_count s
  field_known i l = subst (λ (x : ℕ). x < field_count s) (field_is i l) ((promised q).known i (omega (arith, q.arity_is)))

  -- those of two columns differ
  pub fields_apart : (i l : ℕ) → i < arity → l < arity → i ≢ l → field_of (table_at s at) i ≢ field_of (table_at s at) l
  fields_apart i l il ll n e =
      table-fields-apart s at (promised q) i l (omega (arith, q.arity_is)) (omega (arith, q.arity_is)) n (field_is i il ∙ e ∙ sym (field_is l ll))

  -- a code is one of its field's
  code_known : (r i : ℕ) → r < rows → i < arity → code_of (table_at s at) r i < count_at s (field_of (table_at s at) i)
  code_known r i rl il =
      let l : i < arity_at s at = omega (arith, q.arity_is) in
      let h : code_at s at r i < count_at s (field_at s at i) = (promised q).codes r i (omega (arith, q.rows_is)) l in
      rw (table_code s at r i (omega (arith, q.rows_is)) l, table_field s at i l) h

  -- so each code has a bit
  pub code_small : (r i : ℕ) → r < rows → i < arity → code_of (table_at s at) r i < code_limit
  code_small r i rl il = omega (arith, code_known r i rl il, (q.table.promise.sized (field_of (table_at s at) i) (field_known i il)).1)

  pub codes_small : (r i : ℕ) → r < length (table_at s at).rows → i < length (table_at s at).fields → code_of (table_at s at) r i < code_limit
  codes_small r i rl il = code_small r i (subst (r <◌) rows_of_lem rl) (subst (i <◌) (fields_many q) il)

  -- the table is the book's
  pub index_below : index < length (book_of s).tables
  index_below = omega (arith, tables_count s, q.table.within)

  pub nth_is : nth (book_of s) index ≡ table_at s at
  nth_is = nth_at s index at q.table.within q.table.at_is

-- ---- its field numbers, by another name

module _ {s : List ℕ} {index at arity first rows : ℕ} (q : TableIn s index at arity first rows) {F : List ℕ} (e : F ≡ (table_at s at).fields) where
  pub columns : length F ≡ arity
  columns = ap length e ∙ fields_many q

  pub column_field : {j : ℕ} → j < length F → get_or F j 0 ≡ byte s (at + 1 + j)
  column_field {j} l = ap (λ (x : List ℕ). get_or x j 0) e ∙ sym (field_is q j (omega (arith, columns)))
