-- What a table's view says of its fields. Assumes nothing.
use mathlib.Core.Path.{◌≡◌, sym, ap, ◌∙◌}
use mathlib.Core.List.{List}
use Prim.Native.Nat.{ℕ, ◌<◌}
use native.Mathlib.Omega.{arith}
use lib.ListN.{length, get_or}
use Rattle.format.specs.Format.{Table, field_most, version_of, table_at, book_of}
use Rattle.format.specs.Promise.{TablePromise}
use Rattle.format.specs.Trees.{tied}
use Rattle.format.proofs.Limits.{limit_most}
use Rattle.format.proofs.Views.{no_table, table_view, table_arity, table_field}
use Rattle.book.specs.View.{TableIn}

module _ {s : List ℕ} {i at a p n : ℕ} (t : TableIn s i at a p n) where
  -- the reader's promise about it
  pub promised : TablePromise s at
  promised = rw t.table.at_is (t.table.promise.tables i t.table.within)

  -- as many as it says
  pub fields_many : length (table_at s at).fields ≡ a
  fields_many = table_arity s at (omega (arith, promised.ends, t.table.promise.whole)) ∙ sym t.arity_is

  -- each of them is a field that a book may have
  pub field_few : (j : ℕ) → j < a → get_or (table_at s at).fields j 0 < field_most
  field_few j h =
      omega (arith, t.arity_is, table_field s at j, promised.known j, t.table.promise.few, limit_most (version_of s))

  -- they are what this table of the book ties
  pub tied_are : tied (book_of s) i ≡ (table_at s at).fields
  tied_are = ap (λ (x : Table). x.fields) (table_view s no_table i t.table.within ∙ ap (table_at s) (sym t.table.at_is))
