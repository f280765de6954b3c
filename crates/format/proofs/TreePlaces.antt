-- Where a table of an accepted book begins, and what the tests of tree books answer by the first table at fault. Assumes nothing.
use mathlib.Core.Path.{◌≡◌, refl, ap, ◌∙◌}
use mathlib.Core.List.{List, ◌∷◌}
use mathlib.Core.Logic.{⊎_elim}
use Prim.Native.Nat.{ℕ, zero, suc, ◌≤◌, ◌<◌}
use native.Mathlib.Nat.{zero-add, eq-or-lt_of_le}
use native.Mathlib.Omega.{arith}
use lib.ListN.{length, take}
use borrow.Author.Tests.{lt-ltb, le-ltb}
use Rattle.format.specs.Format.{Table, Book, tables_bytes, list_place, table_count, table_end, table_at, tables_at, book_of}
use Rattle.format.specs.Promise.{place, Promise}
use Rattle.format.specs.Reading.{pass, fail}
use Rattle.format.specs.Trees.{first_wide, first_closing, first_byte, table_test, tree_test}
use Rattle.format.proofs.Views.{places_rise}
use Rattle.format.proofs.Decode.{tables_long}

-- the first i of n tables are i tables
tables_take : (s : List ℕ) (p i n : ℕ) → i ≤ n → take i (tables_at s p n) ≡ tables_at s p i
unfolding tables_at
tables_take s p zero n h = refl
tables_take s p (suc i) zero h = absurd (omega arith)
tables_take s p (suc i) (suc n) h = ap (λ (ts : List Table). table_at s p ∷ ts) (tables_take s (table_end s p) i n (omega arith))

-- the tables before table i end at its place
pub first_byte_is : (s : List ℕ) → Promise s → (i : ℕ) → i ≤ table_count s → first_byte (book_of s) i ≡ place s i
unfolding first_byte book_of place
first_byte_is s p i h =
    let within : place s i ≤ list_place s =
    ⊎_elim (λ e. omega (arith, ap (place s) e, p.last)) (λ l. omega (arith, places_rise s i (table_count s) l, p.last)) (eq-or-lt_of_le h) in
    ap (λ (ts : List Table). length (tables_bytes ts)) (tables_take s 0 i (table_count s) h)
    ∙ (simp zero-add at (tables_long s i 0 (rw zero-add (omega (arith, p.whole)))))

module _ (b : Book) where
  -- no table is at fault
  pub table_pass : (number i : ℕ) → length b.tables ≤ i → table_test number b i ≡ pass
  table_pass number i h = rw (le-ltb i (length b.tables) h)

  -- table i is
  pub table_fail : (number i : ℕ) → i < length b.tables → table_test number b i ≡ fail number (first_byte b i)
  table_fail number i h = rw (lt-ltb i (length b.tables) h)

  -- the first wide table is refused
  pub tree_wide : first_wide b < length b.tables → tree_test b ≡ fail 28 (first_byte b (first_wide b))
  unfolding tree_test
  tree_wide h = rw (table_fail 28 (first_wide b) h)

  -- else the first table that closes a ring
  pub tree_ring : length b.tables ≤ first_wide b → first_closing b < length b.tables → tree_test b ≡ fail 29 (first_byte b (first_closing b))
  unfolding tree_test
  tree_ring h k = rw (table_pass 28 (first_wide b) h, table_fail 29 (first_closing b) k)

  -- else none
  pub tree_pass : length b.tables ≤ first_wide b → length b.tables ≤ first_closing b → tree_test b ≡ pass
  unfolding tree_test
  tree_pass h k = rw (table_pass 28 (first_wide b) h, table_pass 29 (first_closing b) k)
