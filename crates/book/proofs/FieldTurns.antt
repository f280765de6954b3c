-- The field numbers of a table, one after another: what a number looked at says of its test, and what the next turn knows. Assumes nothing.
use Rattle.std.proofs.Common.{ℕ, ◌≡◌, refl, ◌+◌, ◌-◌, ◌≤◌, ◌<◌, Bool, List, true, false, arith}
use mathlib.Core.Bool.{◌||◌}
use borrow.Author.Tests.{le-leb, lt-leb, lt-ltb, le-ltb}
use lib.Dec.{ltb, leb}
use Rattle.format.specs.Basics.{pick}
use Rattle.format.specs.Format.{byte}
use Rattle.format.specs.Reading.{field_ok}

-- the least number that rises at i: one above the number before it, 0 at first
abbrev pub least_at : List ℕ → ℕ → ℕ → ℕ
least_at s first i = pick (leb i first) 0 (byte s (i - 1) + 1)

-- at first any number is right
pub least_first : (s : List ℕ) (first : ℕ) → 0 ≡ least_at s first first
least_first s first = simp (le-leb first first (omega arith))

-- behind the number f, one above it
pub least_next : (s : List ℕ) (first i f : ℕ) → first ≤ i → f ≡ byte s i → f + 1 ≡ least_at s first (i + 1)
least_next s first i f h e =
    let d : i + 1 - 1 ≡ i = omega arith in
    let g : first < i + 1 = omega arith in
    simp (lt-leb (i + 1) first g, d, e)

-- b: this is the first number; x: the number before it
rising : (b : Bool) (x f : ℕ) → pick b 0 (x + 1) ≤ f → (b || ltb x f) ≡ true
rising true x f h = refl
rising false x f h = lt-ltb x f (omega arith)

not_rising : (b : Bool) (x f : ℕ) → f < pick b 0 (x + 1) → (b || ltb x f) ≡ false
not_rising true x f h = absurd (omega arith)
not_rising false x f h = le-ltb x f (omega arith)

module _ (s : List ℕ) (fields first i f : ℕ) (e : f ≡ byte s i) where
  -- the number f is too large, not rising, or right
  pub field_large : fields ≤ f → field_ok s fields first i ≡ false
  field_large h = simp (← e, le-ltb _ _ h)

  module _ (h : f < fields) (least : ℕ) (l : least ≡ least_at s first i) where
    pub field_low : f < least → field_ok s fields first i ≡ false
    field_low k = simp (← e, lt-ltb _ _ h, not_rising (leb i first) (byte s (i - 1)) f (rw l at k))

    pub field_good : least ≤ f → field_ok s fields first i ≡ true
    field_good k = simp (← e, lt-ltb _ _ h, rising (leb i first) (byte s (i - 1)) f (rw l at k))
