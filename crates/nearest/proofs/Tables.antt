-- What a table's view says of the book that the bytes hold. Assumes nothing.
use mathlib.Core.Path.{◌≡◌, sym, ap, subst, ◌∙◌}
use mathlib.Core.List.{List}
use Prim.Native.Nat.{ℕ, ◌≤◌}
use native.Mathlib.Omega.{arith}
use lib.ListN.{length}
use Rattle.format.specs.Format.{TableOk, rows_at, table_at, book_of}
use Rattle.format.proofs.Decode.{promise_well}
use Rattle.format.proofs.Elements.{all_at}
use Rattle.format.proofs.Views.{no_table, rows_count, tables_count, table_view}
use Rattle.book.specs.View.{TableIn}
use Rattle.book.proofs.TableFields.{promised}

module _ (s : List ℕ) (i at a p n : ℕ) (t : TableIn s i at a p n) where
  pub arity_few : a ≤ 4
  arity_few = omega (arith, t.arity_is, (promised t).few)

  -- it keeps the layout's conditions
  pub table_ok : TableOk (book_of s).counts (table_at s at)
  table_ok =
      subst (TableOk (book_of s).counts) (table_view s no_table i t.table.within ∙ ap (table_at s) (sym t.table.at_is))
      (all_at (TableOk (book_of s).counts) (book_of s).tables no_table (promise_well s t.table.promise).each i (omega (arith, tables_count s, t.table.within)))

  -- its rows
  pub rows_are : (table_at s at).rows ≡ rows_at s a p n
  unfolding table_at
  rows_are = rw (t.rows_is, t.first_is, t.arity_is)

  pub rows_many : length (table_at s at).rows ≡ n
  rows_many = ap length rows_are ∙ rows_count s a p n
