-- Request M-103: a listing "from before", which names no version, is refused by 20. Assumes nothing.
use mathlib.Core.Path.{◌≡◌, refl, sym, ap, ◌∙◌}
use mathlib.Core.List.{List, [], ◌∷◌, ◌++◌, append_assoc}
use Prim.Native.Nat.{ℕ, ◌+◌}
use native.Mathlib.Omega.{arith}
use lib.ListN.{length, drop, length-append}
use borrow.Author.Tests.{ne_eqb}
use Rattle.format.specs.Format.{Book, WellFormed}
use Rattle.format.specs.Listing.{tables_numbers, listing_of, listing_end}
use Rattle.format.specs.Writing.{declined, writable, writing}
use Rattle.format.proofs.Parsing.{numbers_then, tables_count_read, numbers_length, all_read}

-- two lists that are one list with the same number behind each
same_front : (xs ys : List ℕ) (n : ℕ) → xs ++ (n ∷ []) ≡ ys ++ (n ∷ []) → xs ≡ ys
same_front [] [] n e = refl
same_front [] (y ∷ ys) n e = absurd (omega (arith, ap length e, length-append ys (n ∷ [])))
same_front (x ∷ xs) [] n e = absurd (omega (arith, ap length e, length-append xs (n ∷ [])))
same_front (x ∷ xs) (y ∷ ys) n e =
    let t : xs ++ (n ∷ []) ≡ ys ++ (n ∷ []) = ap (drop 1) e in
    let h : x ≡ y = cc in
    rw (h, same_front xs ys n t)

module _ (b : Book) (well : WellFormed b) where
  -- the listing but for its last number: nothing stands behind the tables
  abbrev before : List ℕ
  before = numbers_then b []

  is_listing : before ++ (b.version ∷ []) ≡ listing_of b
  unfolding listing_of
  is_listing =
      ap {B = List ℕ} (λ (r : List ℕ). length b.counts ∷ r)
      (append_assoc b.counts (length b.tables ∷ (tables_numbers b.tables ++ [])) (b.version ∷ [])
      ∙ ap (λ (r : List ℕ). b.counts ++ (length b.tables ∷ r)) (append_assoc (tables_numbers b.tables) [] (b.version ∷ [])))

  -- its tables end where it ends, so that a number is missing
  past : listing_end before ≡ length before + 1
  past = rw (tables_count_read b []) (omega (arith, (all_read b [] well).1.0, numbers_length b []))

  refused : (o : List ℕ) → writing before o ≡ declined o 20 0
  unfolding writing writable
  refused o = rw (ne_eqb (listing_end before) (length before) (λ e. omega (arith, past)))

  pub unversioned : (l o : List ℕ) → listing_of b ≡ l ++ (b.version ∷ []) → writing l o ≡ declined o 20 0
  unversioned l o e = rw (sym (same_front before l b.version (is_listing ∙ e))) (refused o)
