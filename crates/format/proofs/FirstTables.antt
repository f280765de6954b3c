-- The first table of more than two fields and the first that closes a ring: what is computed is what is said. Assumes nothing.
use mathlib.Core.Path.{◌≡◌, ap, subst}
use mathlib.Core.Logic.{⊎_elim}
use mathlib.Core.Bool.{Bool, true, not}
use Prim.Native.Nat.{ℕ, zero, suc, ◌≤◌, ◌<◌}
use native.Mathlib.Nat.{lt-suc_self}
use native.Mathlib.Omega.{arith}
use lib.ListN.{length}
use lib.Dec.{leb}
use borrow.Author.Tests.{leb-true, leb-false, le-leb, lt-leb, not-false, both_ways}
use Rattle.std.proofs.lemmas.Bool.{not_from_false, false_from_ne_true}
use Rattle.format.specs.Format.{Table, Book}
use Rattle.format.specs.Trees.{tied, Ring, tree_arity, Narrow, FirstWide, FirstRing, closes, first_wide, first_closing}
use Rattle.format.specs.TreeBooks.{Computed}
use Rattle.format.proofs.Elements.{all_at, all_of}
use Rattle.format.proofs.Scans.{bad_before, all_pass, bad_fails, pass_all, bad_is}
use Rattle.format.proofs.Views.{no_table}
use Rattle.format.proofs.Trails.{ring_more, closes_ring, ring_none, ring_last, pair_ring}

module _ (b : Book) where
  abbrev n : ℕ
  n = length b.tables

  -- ---- more than two fields

  -- the test of table i, and what it says of a table
  abbrev narrow_at : ℕ → Bool
  narrow_at i = leb (length (tied b i)) tree_arity

  abbrev Few : Table → Type 0
  Few t = length t.fields ≤ tree_arity

  -- the first wide table is the one computed
  pub wide_is : (i : ℕ) → FirstWide b i → first_wide b ≡ i
  unfolding first_wide
  wide_is i w = bad_is narrow_at n i w.table_in (lt-leb _ _ w.wide) (λ k l. le-leb _ _ (w.narrow_before k l))

  -- and the scan stops there
  pub wide_stop : first_wide b < n → FirstWide b (first_wide b)
  unfolding first_wide
  wide_stop l =
      record {
        table_in = l;
        wide = leb-false _ _ (bad_fails narrow_at 0 n (omega arith) l);
        narrow_before = λ k m. leb-true _ _ (bad_before narrow_at 0 n k (omega arith) m);
      }

  -- the end is reached where none is wide, and only there
  pub wide_end : n ≤ first_wide b → Narrow b
  unfolding first_wide
  wide_end h = all_of Few b.tables no_table (λ k l. leb-true _ _ (all_pass narrow_at 0 n (omega arith) h k (omega arith) l))

  pub narrow_end : Narrow b → first_wide b ≡ n
  unfolding first_wide
  narrow_end h = pass_all narrow_at 0 n (omega arith) (λ k l u. le-leb _ _ (all_at Few b.tables no_table h k u))

  -- so a book with a first wide table is not narrow
  pub wide_not_narrow : {i : ℕ} → FirstWide b i → Narrow b → ⊥
  wide_not_narrow {i} w h = omega (arith, wide_is i w, w.table_in, narrow_end h)

  -- ---- rings

  -- table i closes none
  abbrev opens : ℕ → Bool
  opens i = not (closes b i)

  -- no table closes a ring exactly where there is none
  none_closes : (m : ℕ) → (Ring b m → ⊥) → (k : ℕ) → k < m → opens k ≡ true
  none_closes m h k l = not_from_false (closes b k) (false_from_ne_true (closes b k) (λ t. h (ring_more b l (closes_ring b k t))))

  no_ring : (m : ℕ) → ((k : ℕ) → k < m → opens k ≡ true) → Ring b m → ⊥
  no_ring zero h r = ring_none b r
  no_ring (suc m) h r =
      ⊎_elim (no_ring m (λ k l. h k (omega arith)))
      (λ (t : closes b m ≡ true). both_ways (opens m) (ap not t) (h m (lt-suc_self m))) (ring_last b m r)

  -- the first table that closes a ring is the one computed
  pub closing_is : (i : ℕ) → FirstRing b i → first_closing b ≡ i
  unfolding first_closing
  closing_is i w =
      bad_is opens n i w.table_in (⊎_elim (λ r. absurd (w.none_before r)) (λ t. ap not t) (ring_last b i w.ring))
      (none_closes i w.none_before)

  -- and the scan stops there
  pub closing_stop : first_closing b < n → FirstRing b (first_closing b)
  unfolding first_closing
  closing_stop l =
      record {
        table_in = l;
        ring = closes_ring b _ (not-false _ (bad_fails opens 0 n (omega arith) l));
        none_before = no_ring _ (λ k m. bad_before opens 0 n k (omega arith) m);
      }

  -- the end is reached where there is no ring, and only there
  pub closing_end : n ≤ first_closing b → Ring b n → ⊥
  unfolding first_closing
  closing_end h = no_ring n (λ k l. all_pass opens 0 n (omega arith) h k (omega arith) l)

  pub no_ring_end : (Ring b n → ⊥) → first_closing b ≡ n
  unfolding first_closing
  no_ring_end h = pass_all opens 0 n (omega arith) (λ k l u. none_closes n h k u)

  pub computed : Computed b
  computed =
      record {
        wide = λ i. (λ w. (w.table_in, wide_is i w), λ w. subst (FirstWide b) w.1 (wide_stop (omega (arith, w.0, w.1))));
        narrow = (narrow_end, λ e. wide_end (omega arith));
        ring = λ i. (λ w. (w.table_in, closing_is i w), λ w. subst (FirstRing b) w.1 (closing_stop (omega (arith, w.0, w.1))));
        no_ring = (no_ring_end, λ e. closing_end (omega arith));
        pair = λ i k x y l m e d. pair_ring b (omega arith) m (omega arith) e d;
      }
