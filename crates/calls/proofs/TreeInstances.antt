-- Condition 1 at work: each refusal of reading for the tree profile, and of writing for it. Assumes nothing.
use Prim.Native.Nat.{ℕ}
use mathlib.Core.Path.{refl}
use mathlib.Core.List.{List, [], ◌∷◌}
use native.Mathlib.Omega.{arith}
use lib.ListN.{replicate}
use Rattle.format.specs.Basics.{scan, first_bad, All}
use Rattle.format.specs.Listing.{table_numbers, listing_of, tables_in, tables_end, table_in, book_in}
use Rattle.format.specs.Format.{table_bytes, trailer_bytes, encode, rows_at}
use Rattle.format.specs.Reading.{trailer_test, list_test, rows_step, table_step, tables_step, verdict, reading}
use Rattle.format.specs.Writing.{writable}
use Rattle.format.specs.Trees.{Narrow, Tree, FirstWide, FirstRing, first_byte, label, closes, first_wide, first_closing}
use Rattle.consistency.specs.Consistency.{Sheet}
use Rattle.calls.specs.Conditions.{to_read_tree, Refusal, read_tree_28, read_tree_29, WriteTreeRefusal, write_tree_20, write_tree_28, write_tree_29, write_tree_18}
use Rattle.calls.specs.Trees.{forest, twins, wide}
use Rattle.format.proofs.FirstTables.{computed, wide_not_narrow}
use Rattle.calls.proofs.Instances.{no_version, one_over, over_byte, no_codes, no_version_missing, one_over_left, over_byte_large, no_codes_unread}

-- the third table of `wide` is its first of more than two fields
third_wide : FirstWide wide 2
unfolding first_wide first_bad scan
third_wide = ((computed wide).wide 2).1 (omega arith, refl)

-- the third table of `twins` is the first that closes a ring
third_closes : FirstRing twins 2
unfolding first_closing closes label first_bad scan
third_closes = ((computed twins).ring 2).1 (omega arith, refl)

twins_narrow : Narrow twins
unfolding first_wide first_bad scan
twins_narrow = (computed twins).narrow.1 refl

-- `forest` is a tree
forest_tree : Tree forest
unfolding first_wide first_closing closes label first_bad scan
forest_tree = record { narrow = (computed forest).narrow.1 refl; no_ring = (computed forest).no_ring.1 refl }

-- ---- reading

pub wide_28 : (s : Sheet) → Refusal wide s to_read_tree 28 10
unfolding first_byte table_bytes
wide_28 s = read_tree_28 third_wide

pub twins_29 : (s : Sheet) → Refusal twins s to_read_tree 29 9
unfolding first_byte table_bytes
twins_29 s = read_tree_29 twins_narrow third_closes

-- ---- writing: 20, 28 and 29 whatever is lent

module _ (o : List ℕ) where
  pub four_20 : All (λ (l : List ℕ). WriteTreeRefusal l o 20 0) (no_version ∷ one_over ∷ over_byte ∷ no_codes ∷ [])
  four_20 =
      (write_tree_20 no_version_missing, (write_tree_20 one_over_left, (write_tree_20 over_byte_large, (write_tree_20 no_codes_unread, tt))))

  pub wide_unwritten : WriteTreeRefusal (listing_of wide) o 28 0
  unfolding listing_of table_numbers tables_in table_in tables_end book_in encode table_bytes trailer_bytes writable reading verdict trailer_test list_test tables_step table_step rows_step rows_at first_bad scan
  wide_unwritten = write_tree_28 refl (wide_not_narrow wide third_wide)

  pub twins_unwritten : WriteTreeRefusal (listing_of twins) o 29 0
  unfolding listing_of table_numbers tables_in table_in tables_end book_in encode table_bytes trailer_bytes writable reading verdict trailer_test list_test tables_step table_step rows_step rows_at first_bad scan
  twins_unwritten = write_tree_29 refl twins_narrow third_closes.ring

-- `forest` has 29 bytes
pub forest_18 : WriteTreeRefusal (listing_of forest) (replicate 28 9) 18 0
unfolding listing_of table_numbers tables_in table_in tables_end book_in encode table_bytes trailer_bytes writable reading verdict trailer_test list_test tables_step table_step rows_step rows_at first_bad scan
forest_18 = write_tree_18 refl forest_tree (omega arith)
