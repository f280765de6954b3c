-- The tests of a listing, table by table: what each way through them answers. Assumes nothing.
use mathlib.Core.Path.{◌≡◌, refl, sym, ap, ◌∙◌}
use mathlib.Core.Bool.{Bool, true, false, ◌&&◌}
use mathlib.Core.List.{List}
use Prim.Native.Nat.{ℕ, suc, ◌+◌, ◌-◌, ◌*◌, ◌≤◌, ◌<◌}
use native.Mathlib.Omega.{arith}
use lib.ListN.{length, get_or}
use lib.Dec.{eqb, ltb}
use borrow.Author.Tests.{le-leb, lt-leb, lt-ltb, le-ltb, eqb-true, eq-eqb, ne_eqb}
use Rattle.format.specs.Format.{part}
use Rattle.format.specs.Listing.{number_at, arity_in, row_count_in, table_end_in}
use Rattle.format.specs.Writing.{all_bytes}
use Rattle.std.specs.Prelude.{Some, None, MatchBool}
use Rattle.std.specs.Bool.{then_some}
use Rattle.std.specs.List.{AllWithin, HoldsAt}
use Rattle.format.proofs.ByteTests.{bytes_true, true_bytes}
use Rattle.format.proofs.Elements.{all_of, all_at}
use Rattle.format.specs.Basics.{pick}
use Rattle.format.proofs.Picks.{same_test}
use Rattle.listing.specs.Fits.{table_fits, tables_fit}
use Rattle.listing.proofs.Laying.{end_in}

-- each number is a byte, or one is none
pub all_tested : (xs : List ℕ) (r : Bool) → MatchBool r (AllWithin (λ x. x ≤ 255) xs 0 (length xs)) ((k : ℕ) × (k < length xs) × HoldsAt (λ x. 255 < x) xs k)
    → r ≡ all_bytes xs
all_tested xs true h = sym (true_bytes xs (all_of (λ x. x < 256) xs 0 (λ k l. small k (h k 0 (omega arith) l))))
  where
    small : (k : ℕ) → get_or xs k 0 ≤ 255 → get_or xs k 0 < 256
    small k m = omega arith
all_tested xs false h = go (all_bytes xs) refl
  where
    go : (t : Bool) → all_bytes xs ≡ t → false ≡ all_bytes xs
    go true e =
        let b = all_at (λ x. x < 256) xs 0 (bytes_true xs e) h.0 h.1 in
        let n = h.2 0 in
        absurd (omega arith)
    go false e = sym e

-- ---- the table at at

module _ (l : List ℕ) (at : ℕ) where
  -- a table that ends behind the listing does not fit
  pub stop_end : length l < table_end_in l at → None ≡ pick (table_fits l at) (Some (table_end_in l at)) None
  unfolding table_fits
  stop_end h = rw (lt-leb (table_end_in l at) (length l) h)

  -- one of a codes in each of n rows that lies within it: its two runs of numbers decide
  module _ (a n e : ℕ) (ea : a ≡ arity_in l at) (en : n ≡ number_at l (at + 1 + a)) (small : n < 65536) (ends : e ≡ at + 2 + a + n * a) (h : e ≤ length l) where
    decided : table_fits l at ≡ all_bytes (part l at (1 + a)) && all_bytes (part l (at + 2 + a) (n * a))
    unfolding table_fits
    decided =
        let inside : table_end_in l at ≤ length l = omega (arith, end_in l at a n ea en, ends) in
        let s : row_count_in l at < 65536 = omega (arith, ap (λ (x : ℕ). number_at l (at + 1 + x)) ea) in
        rw (le-leb (table_end_in l at) (length l) inside, lt-ltb (row_count_in l at) 65536 s, en, ea)

    pub table_tested : (b : Bool) → b ≡ all_bytes (part l at (1 + a)) && all_bytes (part l (at + 2 + a) (n * a))
        → then_some b e ≡ pick (table_fits l at) (Some (table_end_in l at)) None
    table_tested b d = rw (d, ← decided, ends, end_in l at a n ea en) (picked (table_fits l at) (table_end_in l at))
      where
        picked : (t : Bool) (k : ℕ) → then_some t k ≡ pick t (Some k) None
        picked true k = refl
        picked false k = refl

-- ---- the loop over the tables: left tables from at on

-- a table that can be laid out, and one that cannot
went : (t : Bool) (end e : ℕ) → Some e ≡ pick t (Some end) None → (t ≡ true) × (e ≡ end)
went true end e d = (refl, cc)
went false end e d = absurd (cc)

stopped : (t : Bool) (end : ℕ) → None ≡ pick t (Some end) None → t ≡ false
stopped true end d = absurd (cc)
stopped false end d = refl

module _ (l : List ℕ) (at left : ℕ) where
  one_fits : (k : ℕ) → left ≡ suc k → tables_fit l at left ≡ table_fits l at && tables_fit l (table_end_in l at) k
  unfolding tables_fit
  one_fits k e = rw e

  pub fit_next : (k : ℕ) → left ≡ suc k → (end : ℕ) → Some end ≡ pick (table_fits l at) (Some (table_end_in l at)) None → tables_fit l end k ≡ tables_fit l at left
  fit_next k h end d =
      let w = went (table_fits l at) (table_end_in l at) end d in
      rw (one_fits k h, w.0, w.1)

  pub fit_stop : (k : ℕ) → left ≡ suc k → None ≡ pick (table_fits l at) (Some (table_end_in l at)) None → false ≡ tables_fit l at left
  fit_stop k h d = rw (one_fits k h, stopped (table_fits l at) (table_end_in l at) d)

  -- with no table left, the version alone is behind them
  ended : left ≤ 0 → eqb (at + 1) (length l) ≡ tables_fit l at left
  unfolding tables_fit
  ended h = let d : left ≡ 0 = omega arith in rw d

  pub fit_short : left ≤ 0 → length l ≤ at → ltb at (length l) ≡ tables_fit l at left
  fit_short h k = rw (le-ltb at (length l) k) (sym (ne_eqb (at + 1) (length l) (λ e. omega arith)) ∙ ended h)

  pub fit_end : left ≤ 0 → at < length l → eqb (length l - at) 1 ≡ tables_fit l at left
  fit_end h k =
      same_test (eqb (length l - at) 1) (eqb (at + 1) (length l))
      (λ e. eq-eqb (at + 1) (length l) (omega (arith, eqb-true (length l - at) 1 e)))
      (λ e. eq-eqb (length l - at) 1 (omega (arith, eqb-true (at + 1) (length l) e)))
      ∙ ended h
