-- The three tests of a listing that can be written, and what they say. Assumes nothing.
use mathlib.Core.Path.{◌≡◌}
use mathlib.Core.Bool.{true, ◌&&◌}
use mathlib.Core.List.{List}
use Prim.Native.Nat.{ℕ}
use lib.Dec.{eqb}
use lib.ListN.{length}
use borrow.Author.Tests.{eqb-true, eq-eqb}
use Rattle.format.specs.Listing.{listing_end}
use Rattle.format.specs.Layout.{Bytes}
use Rattle.format.specs.Reading.{reading, Accepted}
use Rattle.format.specs.Writing.{laid_out, all_bytes, writable}
use Rattle.format.proofs.Picks.{both_true, both_pass}
use Rattle.format.proofs.ByteTests.{bytes_true, true_bytes}

pub record Writable (l : List ℕ) : Type 0 where
  pub whole : listing_end l ≡ length l
  pub bytes : Bytes (laid_out l)
  pub reads : Accepted (laid_out l)

module _ (l : List ℕ) where
  pub writable_says : writable l ≡ true → Writable l
  unfolding writable
  writable_says e =
      let a = both_true (eqb (listing_end l) (length l)) (all_bytes (laid_out l) && eqb (reading (laid_out l)).number 0) e in
      let b = both_true (all_bytes (laid_out l)) (eqb (reading (laid_out l)).number 0) a.1 in
      record {
        whole = eqb-true (listing_end l) (length l) a.0;
        bytes = bytes_true (laid_out l) b.0;
        reads = eqb-true (reading (laid_out l)).number 0 b.1;
      }

  pub says_writable : Writable l → writable l ≡ true
  unfolding writable
  says_writable w =
      both_pass (eqb (listing_end l) (length l)) (all_bytes (laid_out l) && eqb (reading (laid_out l)).number 0)
      (eq-eqb (listing_end l) (length l) w.whole)
      (both_pass (all_bytes (laid_out l)) (eqb (reading (laid_out l)).number 0) (true_bytes (laid_out l) w.bytes)
      (eq-eqb (reading (laid_out l)).number 0 w.reads))
