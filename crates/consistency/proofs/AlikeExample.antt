-- Two different books that are alike: document 01's E1, and E1 with its tables the other way round and its repeated row once. Assumes nothing.
use Prim.Native.Nat.{ℕ, zero, suc, ◌-◌, ◌<◌}
use mathlib.Core.Path.{◌≡◌, refl}
use mathlib.Core.List.{List, [], ◌∷◌}
use native.Mathlib.Omega.{arith}
use Rattle.format.specs.Format.{Table, Book}
use Rattle.consistency.specs.Consistency.{nth}
use Rattle.consistency.specs.Largest.{largest}
use Rattle.consistency.specs.Alike.{AlikeTables, Alike, Repeated}
use Rattle.consistency.proofs.Tables.{same_alike}
use Rattle.consistency.proofs.AlikeLaws.{alike_largest}
use Rattle.consistency.proofs.Repeats.{less_alike}

-- E1's first table, whose last row repeats its second, the same without the repeat, and E1's second table
abbrev pub repeating : Table
repeating = record { fields = 0 ∷ 2 ∷ []; rows = (0 ∷ 0 ∷ []) ∷ (0 ∷ 1 ∷ []) ∷ (1 ∷ 2 ∷ []) ∷ (0 ∷ 1 ∷ []) ∷ [] }

abbrev pub once : Table
once = record { fields = 0 ∷ 2 ∷ []; rows = (0 ∷ 0 ∷ []) ∷ (0 ∷ 1 ∷ []) ∷ (1 ∷ 2 ∷ []) ∷ [] }

abbrev pub second : Table
second = record { fields = 1 ∷ 2 ∷ []; rows = (0 ∷ 0 ∷ []) ∷ (1 ∷ 1 ∷ []) ∷ (1 ∷ 2 ∷ []) ∷ (2 ∷ 2 ∷ []) ∷ [] }

-- E1, and the other book
abbrev pub example : Book
example = record { version = 1; counts = 2 ∷ 3 ∷ 3 ∷ []; tables = repeating ∷ second ∷ [] }

abbrev pub turned : Book
turned = record { version = 1; counts = 2 ∷ 3 ∷ 3 ∷ []; tables = second ∷ once ∷ [] }

-- the last row of E1's first table is its second
pub example_repeated : Repeated example 0 3
example_repeated =
    record { table_in = omega arith; row_in = omega arith; other = 1; other_in = omega arith; elsewhere = λ e. omega arith; same = refl }

pairs : (i : ℕ) → i < 2 → AlikeTables (nth example i) (nth turned (1 - i))
pairs zero l =
    let h = example_repeated in
    less_alike repeating 3 h.row_in h.other h.other_in h.elsewhere h.same
pairs (suc zero) l = same_alike refl
pairs (suc (suc i)) l = absurd (omega arith)

-- table i of E1 stands at place 1 - i of the other book
pub example_alike : Alike example turned
example_alike =
    record {
      same_counts = refl;
      to = λ i. 1 - i;
      from = λ i. 1 - i;
      to_in = λ i l. omega arith;
      from_in = λ i l. omega arith;
      from_to = λ i l. omega arith;
      to_from = λ i l. omega arith;
      pairs = pairs;
    }

-- so they have the same largest subdomain, under any answers
pub example_largest : (a : List ℕ) (f c : ℕ) → largest example a f c ≡ largest turned a f c
example_largest = alike_largest example_alike
