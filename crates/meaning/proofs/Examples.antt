-- The list of full readings has all of them and no other; the examples hold, computed; and what E4 and E6 show. Assumes nothing.
use Prim.Native.Nat.{ℕ}
use mathlib.Core.Path.{◌≡◌, refl, subst}
use mathlib.Core.Bool.{true}
use mathlib.Core.List.Memᴰ
use mathlib.Core.List.{List, [], ◌∷◌}
use native.Mathlib.Omega.{arith}
use lib.ListN.{length}
use Rattle.format.specs.Basics.{In, scan, first_bad}
use Rattle.format.specs.Format.{Book, table_bytes, trailer_bytes, encode, rows_at, table_at, tables_at, book_of}
use Rattle.format.specs.Reading.{trailer_test, list_test, rows_step, table_step, tables_step, verdict, reading}
use Rattle.format.specs.Joining.{keep}
use Rattle.format.specs.Trees.{Tree, label, closes, first_wide, first_closing, first_byte, tree_test, tree_verdict, tree_reading}
use Rattle.format.proofs.Booleans.{true_T}
use Rattle.format.proofs.FirstTables.{computed}
use Rattle.format.proofs.Joined.{in_keep, keep_in}
use Rattle.consistency.specs.Counting.{tabulate}
use Rattle.consistency.specs.Largest.{remove_from, remove, count_of, count, row_supports, table_supports, book_supports, start, rounds, largest_domains, largest}
use Rattle.consistency.specs.Emptiness.{none_empty}
use Rattle.consistency.specs.Consistency.{relax}
use Rattle.consistency.specs.Counts.{outside, listed, total, struck, lines, masks}
use Rattle.consistency.specs.Readings.{Full}
use Rattle.consistency.specs.Nearest.{is_full, readings}
use Rattle.consistency.proofs.EmptyFields.{none_out}
use Rattle.consistency.proofs.ReadingOrder.{in_codes, codes_in_lem}
use Rattle.consistency.proofs.Suiting.{test_full, full_test}
use Rattle.calls.specs.Calls.{entered, photographed, filtered, alternatives}
use Rattle.calls.specs.Histories.{sheet_through}
use Rattle.calls.specs.Examples.{e4, e6}
use Rattle.meaning.specs.Examples.{full_readings, FullReadingsAre, MeaningExamplesHold, WhyTrees}

-- ---- all full readings

pub full_readings_are : FullReadingsAre
full_readings_are b r = (
  λ m. let w = in_keep (is_full b.tables) (readings b (length b.counts) []) r m in test_full b r (in_codes b w.0) w.1,
  λ h. keep_in (is_full b.tables) (readings b (length b.counts) []) r (codes_in_lem b h.codes_are) (full_test b r h),
)

-- ---- computed

pub meaning_examples_lem : MeaningExamplesHold
unfolding tree_reading tree_verdict tree_test first_byte first_wide first_closing closes label keep readings tabulate sheet_through entered photographed filtered alternatives none_empty outside total struck lines masks largest_domains rounds start remove remove_from count count_of book_supports table_supports row_supports encode table_bytes trailer_bytes reading verdict trailer_test list_test tables_step table_step rows_step first_bad scan book_of tables_at table_at rows_at
meaning_examples_lem = refl

-- ---- why trees, and why no other field may be empty

-- a book whose list of full readings is empty has none
no_reading : (b : Book) → full_readings b ≡ [] → (r : List ℕ) → Full b r → ⊥
no_reading b e r h = Memᴰ.not-nil (subst (In r) e ((full_readings_are b r).1 h))

e4_all : none_empty e4 (largest e4 []) ≡ true
unfolding none_empty largest_domains rounds start remove remove_from count count_of book_supports table_supports row_supports
e4_all = refl

e4_stands : largest e4 [] 0 0 ≡ true
unfolding largest_domains rounds start remove remove_from count count_of book_supports table_supports row_supports
e4_stands = refl

e4_lists : listed e4 (0 ∷ []) 0 0 ≡ true
unfolding none_empty largest_domains rounds start remove remove_from count count_of book_supports table_supports row_supports
e4_lists = refl

e6_is_tree : Tree e6
unfolding first_wide first_closing closes label first_bad scan
e6_is_tree = record { narrow = (computed e6).narrow.1 refl; no_ring = (computed e6).no_ring.1 refl }

e6_stands : largest e6 (relax (0 ∷ []) 0) 0 0 ≡ true
unfolding largest_domains rounds start remove remove_from count count_of book_supports table_supports row_supports
e6_stands = refl

e4_none : full_readings e4 ≡ []
unfolding keep readings tabulate
e4_none = refl

e6_none : full_readings e6 ≡ []
unfolding keep readings tabulate
e6_none = refl

-- its tables close a ring, so the first that does is not behind the last
e4_is_ring : Tree e4 → ⊥
unfolding first_closing closes label first_bad scan
e4_is_ring t = let e : first_closing e4 ≡ 3 = (computed e4).no_ring.0 t.no_ring in omega (arith, e)

pub why_trees : WhyTrees
why_trees =
    record {
      e4_ring = e4_is_ring;
      e4_none_empty = none_out e4 (largest e4 []) (true_T e4_all);
      e4_standing = true_T e4_stands;
      e4_listed = true_T e4_lists;
      e4_no_reading = no_reading e4 e4_none;
      e6_tree = e6_is_tree;
      e6_lifted = true_T e6_stands;
      e6_no_reading = no_reading e6 e6_none;
    }
