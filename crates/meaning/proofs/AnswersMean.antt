-- What the standing codes and the listed codes of a tree book mean, under any answers. Assumes nothing.
use Prim.Native.Nat.{ℕ, ◌<◌}
use mathlib.Core.Path.{subst}
use mathlib.Core.Logic.{◌↔◌}
use mathlib.Core.List.{List}
use lib.ListN.{length, get_or}
use lib.Dec.{T}
use Rattle.format.specs.Format.{Book, WellFormed}
use Rattle.format.specs.Trees.{Tree}
use Rattle.format.proofs.Booleans.{and_in, and_left, and_right}
use Rattle.consistency.specs.Consistency.{Subdomain, IsLargest, relax}
use Rattle.consistency.specs.Largest.{largest}
use Rattle.consistency.specs.Emptiness.{NoneEmpty, none_empty}
use Rattle.consistency.specs.Counts.{listed}
use Rattle.consistency.proofs.EmptyFields.{none_out, none_in}
use Rattle.consistency.proofs.Largest.{largest_is}
use Rattle.meaning.specs.Meaning.{Keeping, KeepingWith, AnswersMean}
use Rattle.meaning.proofs.Standing.{codes_stand, codes_none_empty}
use Rattle.meaning.proofs.TreeReadings.{full_within}

module _ (b : Book) (well : WellFormed b) (a : List ℕ) (S : Subdomain) (h : IsLargest b a S) where
  -- where a full reading keeps the answers, no field is empty
  kept_none_empty : Keeping b a → NoneEmpty b S
  kept_none_empty k = codes_none_empty b well k.reading a k.full k.keeps S h

  -- and its codes stand
  pub kept_stands : (f c : ℕ) → f < length b.counts → KeepingWith b a f c → T (S f c) × NoneEmpty b S
  kept_stands f c l w = (
    subst (λ (x : ℕ). T (S f x)) w.there (codes_stand b well w.one.reading a w.one.full w.one.keeps S h f l),
    kept_none_empty w.one,
  )

  module _ (tree : Tree b) where
    -- where none is, in a tree book, each code that stands belongs to such a reading
    stands_kept : NoneEmpty b S → (f c : ℕ) → T (S f c) → KeepingWith b a f c
    stands_kept some f c t =
        let w = full_within b well tree S h.fits.of_book h.fits.consistent some f c t in
        record {
          one = record { reading = w.reading; full = w.full; keeps = λ g l n. h.fits.within g (get_or w.reading g 0) n (w.within g l) };
          there = w.there;
        }

    standing_exactly : NoneEmpty b S → (f c : ℕ) → f < length b.counts → T (S f c) ↔ KeepingWith b a f c
    standing_exactly some f c l = (stands_kept some f c, λ w. (kept_stands f c l w).0)

    -- no field is empty exactly where there is one: a book has a field 0, and the code that stands there belongs to it
    none_empty_exactly : NoneEmpty b S ↔ Keeping b a
    none_empty_exactly = (λ some. let first = some 0 well.some in (stands_kept some 0 first.0 first.2).one, kept_none_empty)

-- what is listed stands with the field lifted, where no field is empty
listed_exactly : (b : Book) → WellFormed b → Tree b → (a : List ℕ) (f c : ℕ) → f < length b.counts → T (listed b a f c) ↔ KeepingWith b (relax a f) f c
listed_exactly b well tree a f c l =
    let S : Subdomain = largest b (relax a f) in
    let h : IsLargest b (relax a f) S = largest_is b (relax a f) in (
      λ t. stands_kept b well (relax a f) S h tree (none_out b S (and_right (S f c) (none_empty b S) t)) f c (and_left (S f c) (none_empty b S) t),
      λ w.
          let r = kept_stands b well (relax a f) S h f c l w in
          and_in (S f c) (none_empty b S) r.0 (none_in b S r.1),
    )

pub answers_mean : (b : Book) → WellFormed b → Tree b → (a : List ℕ) → AnswersMean b a
answers_mean b well tree a =
    record {
      listed = listed_exactly b well tree a;
      standing = λ S h. standing_exactly b well a S h tree;
      none_empty = λ S h. none_empty_exactly b well a S h tree;
    }
