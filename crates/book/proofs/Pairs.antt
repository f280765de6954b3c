-- A word held against those behind it. Assumes nothing.
use mathlib.Core.Path.{◌≡◌, ap}
use mathlib.Core.Bool.{Bool, true, false, ◌&&◌, ◌||◌}
use mathlib.Core.List.{List}
use Prim.Native.Nat.{ℕ, zero, suc, ◌+◌, ◌≤◌, ◌<◌}
use Rattle.std.specs.Prelude.{◌/◌}
use native.Mathlib.Numerals.{add-one}
use native.Mathlib.Omega.{arith}
use lib.Dec.{eqb}
use lib.ListN.{length, get_or, drop, drop_of_length-le}
use lib.Seq.{drop-cons}
use borrow.Author.Tests.{eq-eqb, ne_eqb}
use Rattle.std.specs.List.{list_any, range_with_len}
use Rattle.format.specs.Basics.{pick}
use Rattle.words.specs.Sorting.{is_among, distinct}
use Rattle.words.proofs.Counting.{either_eq}

-- equal words have the same highest byte
pub same_first : (x y : ℕ) → (eqb (x / 16777216) (y / 16777216) && eqb x y) ≡ eqb x y
same_first x y =
    either_eq x y
    (λ e. rw (eq-eqb x y e, eq-eqb (x / 16777216) (y / 16777216) (ap (λ (z : ℕ). z / 16777216) e)))
    (λ n. rw (ne_eqb x y n) (either_eq (x / 16777216) (y / 16777216) (λ e. rw (eq-eqb (x / 16777216) (y / 16777216) e)) (λ m. rw (ne_eqb (x / 16777216) (y / 16777216) m))))

module _ (words : List ℕ) where
  module _ (x : ℕ) where
    abbrev pub stands_at : ℕ → Bool
    stands_at j = eqb x (get_or words j 0)

    -- it is among those from place i on exactly when it stands at one of their places
    pub among_from : (n i : ℕ) → i + n ≡ length words → list_any stands_at (range_with_len i n) ≡ is_among x (drop i words)
    among_from zero i h = rw (drop_of_length-le words {i = i} (omega arith))
    among_from (suc n) i h =
        rw (add-one i, drop-cons words i 0 (omega arith)) (ap (λ (b : Bool). eqb x (get_or words i 0) || b) (among_from n (suc i) (omega arith)))

  -- no word is left
  pub distinct_none : (k : ℕ) → length words ≤ k → distinct (drop k words) ≡ 0
  distinct_none k h = rw (drop_of_length-le words {i = k} h)

  -- word k stands again behind it, and counts there; or it does not
  module _ (k : ℕ) (h : k < length words) where
    distinct_on : distinct (drop k words) ≡ pick (is_among (get_or words k 0) (drop (k + 1) words)) 0 1 + distinct (drop (k + 1) words)
    distinct_on = rw (add-one, drop-cons words k 0 h)

    pub distinct_old : true ≡ is_among (get_or words k 0) (drop (k + 1) words) → distinct (drop k words) ≡ distinct (drop (k + 1) words)
    distinct_old e = rw (distinct_on, ← e) (omega arith)

    pub distinct_new : false ≡ is_among (get_or words k 0) (drop (k + 1) words) → distinct (drop k words) ≡ 1 + distinct (drop (k + 1) words)
    distinct_new e = rw (distinct_on, ← e)
