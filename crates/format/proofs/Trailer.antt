-- The tests of the trailer and of the field list pass exactly where their conditions hold. Assumes nothing.
use mathlib.Core.Path.{◌≡◌, sym}
use mathlib.Core.Bool.{true}
use mathlib.Core.List.{List}
use Prim.Native.Nat.{ℕ, ◌+◌, ◌-◌, ◌≤◌, ◌<◌}
use native.Mathlib.Omega.{arith}
use lib.Dec.{leb, ltb, eqb}
use borrow.Author.Tests.{leb-true, eqb-true, ltb-false}
use Rattle.format.specs.Basics.{between, first_bad}
use Rattle.format.specs.Format.{code_limit, table_limit, length_limit, closing_byte, byte}
use Rattle.format.specs.Reading.{pass, fail, trailer_test, count_ok, list_test}
use Rattle.format.proofs.Scans.{all_pass, pass_all}
use Rattle.format.proofs.Picks.{pick_first, pick_second, between_true, within_between}
use Rattle.format.proofs.Refusals.{trailer_pass, list_pass}

-- a refusal is no pass
pub fail≢pass : {number place : ℕ} → fail number place ≡ pass → ⊥
fail≢pass e = let z : ◌≡◌ {A = ℕ} 0 1 = cc in omega arith

-- ---- the trailer of n bytes with these numbers in it

-- the conditions of refusals 1 to 6
pub record TrailerGood (n closing limit fields tables list : ℕ) : Type 0 where
  pub long : 6 ≤ n
  pub short : n ≤ length_limit
  pub closed : closing ≡ closing_byte
  pub some : 1 ≤ fields
  pub few : fields ≤ limit
  pub tables_few : tables ≤ table_limit
  pub whole : list + fields + 6 ≡ n

module _ (n closing limit fields tables list : ℕ) where
  -- a trailer that passes meets them
  pub trailer_good : trailer_test n closing limit fields tables list ≡ pass → TrailerGood n closing limit fields tables list
  unfolding trailer_test
  trailer_good e =
      let e1 = pick_first (between 6 length_limit n) fail≢pass e in
      let e2 = pick_first (eqb closing closing_byte) fail≢pass e1.1 in
      let e3 = pick_first (leb 1 limit) fail≢pass e2.1 in
      let e4 = pick_first (between 1 limit fields) fail≢pass e3.1 in
      let e5 = pick_first (leb tables table_limit) fail≢pass e4.1 in
      let e6 = pick_first (eqb (list + fields + 6) n) fail≢pass e5.1 in
      let length = between_true 6 length_limit n e1.0 in
      let count = between_true 1 limit fields e4.0 in
      record {
        long = length.0;
        short = length.1;
        closed = eqb-true closing closing_byte e2.0;
        some = count.0;
        few = count.1;
        tables_few = leb-true tables table_limit e5.0;
        whole = eqb-true (list + fields + 6) n e6.0;
      }

  -- a trailer that meets them passes
  pub good_trailer : TrailerGood n closing limit fields tables list → trailer_test n closing limit fields tables list ≡ pass
  good_trailer g =
      sym
      (trailer_pass n closing limit fields tables list g.long g.short g.closed (omega arith) g.some g.few
      g.tables_few g.whole)

-- ---- the field list from list on

module _ (s : List ℕ) (list fields : ℕ) where
  -- where the field list passes, each field has 1 to 32 codes
  pub list_sized : list_test s list fields ≡ pass → (f : ℕ) → f < fields
      → (1 ≤ byte s (list + f)) × (byte s (list + f) ≤ code_limit)
  unfolding list_test
  list_sized e f h =
      let b = pick_second (ltb (first_bad (count_ok s) list (list + fields)) (list + fields)) fail≢pass e in
      let end = ltb-false (first_bad (count_ok s) list (list + fields)) (list + fields) b.0 in
      between_true 1 code_limit (byte s (list + f))
      (all_pass (count_ok s) list (list + fields) (omega arith) end (list + f) (omega arith) (omega arith))

  -- where each field has 1 to 32 codes, the field list passes
  pub sized_list : ((f : ℕ) → f < fields → (1 ≤ byte s (list + f)) × (byte s (list + f) ≤ code_limit))
      → list_test s list fields ≡ pass
  sized_list g =
      let end = pass_all (count_ok s) list (list + fields) (omega arith) ok in
      sym (list_pass s list fields (list + fields) (sym end) (omega arith))
    where
      ok : (k : ℕ) → list ≤ k → k < list + fields → count_ok s k ≡ true
      ok k l u =
          let i : list + (k - list) ≡ k = omega arith in
          let c = rw i at (g (k - list) (omega arith)) in
          within_between 1 code_limit (byte s k) c.0 c.1
