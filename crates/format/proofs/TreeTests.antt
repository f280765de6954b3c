-- What the tests of tree books answer, by what the book is. Assumes nothing.
use mathlib.Core.Path.{◌≡◌}
use mathlib.Core.Logic.{⊎_elim}
use Prim.Native.Nat.{ℕ}
use native.Mathlib.Omega.{arith}
use lib.ListN.{length}
use Rattle.std.proofs.lemmas.Bool.{cases_lt}
use Rattle.format.specs.Format.{Book}
use Rattle.format.specs.Reading.{pass, fail}
use Rattle.format.specs.Trees.{Narrow, Tree, FirstWide, FirstRing, first_wide, first_closing, first_byte, tree_test}
use Rattle.format.proofs.TreePlaces.{tree_wide, tree_ring, tree_pass}
use Rattle.format.proofs.FirstTables.{wide_stop, wide_is, wide_end, narrow_end, closing_stop, closing_is, closing_end, no_ring_end}

-- the three answers, each with what the book is: 28 at its first wide table, 29 at the first table that closes a ring where none is wide,
-- or none of a tree
pub data TreeCase (b : Book) : Type 0 where
  wide : (i : ℕ) → FirstWide b i → tree_test b ≡ fail 28 (first_byte b i) → TreeCase b
  ring : (i : ℕ) → Narrow b → FirstRing b i → tree_test b ≡ fail 29 (first_byte b i) → TreeCase b
  tree : Tree b → tree_test b ≡ pass → TreeCase b

module _ (b : Book) where
  -- what the book is gives the answer
  pub wide_test : (i : ℕ) → FirstWide b i → tree_test b ≡ fail 28 (first_byte b i)
  wide_test i w = let e = wide_is b i w in rw (← e) (tree_wide b (omega (arith, w.table_in)))

  pub ring_test : (i : ℕ) → Narrow b → FirstRing b i → tree_test b ≡ fail 29 (first_byte b i)
  ring_test i n w = let e = closing_is b i w in rw (← e) (tree_ring b (omega (arith, narrow_end b n)) (omega (arith, w.table_in)))

  pub tree_passes : Tree b → tree_test b ≡ pass
  tree_passes t = tree_pass b (omega (arith, narrow_end b t.narrow)) (omega (arith, no_ring_end b t.no_ring))

  -- and each book is of one of the three kinds
  pub tree_cases : TreeCase b
  tree_cases =
      ⊎_elim (λ l. TreeCase.wide (first_wide b) (wide_stop b l) (tree_wide b l))
      (λ h.
      ⊎_elim (λ l. TreeCase.ring (first_closing b) (wide_end b h) (closing_stop b l) (tree_ring b h l))
      (λ k. TreeCase.tree (record { narrow = wide_end b h; no_ring = closing_end b k }) (tree_pass b h k))
      (cases_lt (first_closing b) (length b.tables))) (cases_lt (first_wide b) (length b.tables))
