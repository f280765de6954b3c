-- What the searches for a wide table and for a ring find is what the tests of the profile answer. Assumes nothing.
use mathlib.Core.Path.{◌≡◌, sym, ap, ◌∙◌}
use Prim.Native.Nat.{ℕ, ◌<◌}
use native.Mathlib.Omega.{arith}
use lib.ListN.{length}
use Rattle.std.specs.Prelude.{Some, None}
use Rattle.format.specs.Format.{book_of}
use Rattle.format.specs.Reading.{pass, fail}
use Rattle.format.specs.Trees.{first_wide, first_closing, first_byte, tree_test}
use Rattle.format.proofs.TreePlaces.{first_byte_is, tree_wide, tree_ring, tree_pass}
use Rattle.format.proofs.Views.{tables_count}
use Rattle.book.specs.declared.view.Book.{Book}
use Rattle.book.specs.declared.view.Table.{Table}
use Rattle.trees.specs.Found.{FoundTable}

module _ (b : Book) where
  count : length (book_of b.bytes.now).tables ≡ b.tables
  count = tables_count b.bytes.now ∙ sym b.viewed.numbers.tables_is

  -- a table found is one of the book's, and begins at its place
  module _ {first : ℕ} (table : Table) (f : FoundTable b first (Some table)) where
    within : first < length (book_of b.bytes.now).tables
    within = rw (← f.0, ← f.1) (omega (arith, tables_count table.bytes.now, table.stands.table.within))

    begins : first_byte (book_of b.bytes.now) first ≡ table.at
    begins =
        first_byte_is b.bytes.now b.viewed.numbers.promise first (omega (arith, within, tables_count b.bytes.now))
        ∙ rw (← f.0, ← f.1) (sym table.stands.table.at_is)

  -- 28
  pub found_wide : (table : Table) → FoundTable b (first_wide (book_of b.bytes.now)) (Some table)
      → fail 28 table.at ≡ tree_test (book_of b.bytes.now)
  found_wide table f = sym (tree_wide (book_of b.bytes.now) (within table f) ∙ ap (fail 28) (begins table f))

  module _ (n : FoundTable b (first_wide (book_of b.bytes.now)) None) where
    -- 29
    pub found_ring : (table : Table) → FoundTable b (first_closing (book_of b.bytes.now)) (Some table)
        → fail 29 table.at ≡ tree_test (book_of b.bytes.now)
    found_ring table f =
        sym (tree_ring (book_of b.bytes.now) (omega (arith, n, count)) (within table f) ∙ ap (fail 29) (begins table f))

    -- neither
    pub found_none : FoundTable b (first_closing (book_of b.bytes.now)) None → pass ≡ tree_test (book_of b.bytes.now)
    found_none m = sym (tree_pass (book_of b.bytes.now) (omega (arith, n, count)) (omega (arith, m, count)))
