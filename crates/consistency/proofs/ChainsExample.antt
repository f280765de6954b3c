-- Document 01's E6: its one table, on field 1 and without rows, empties field 1 and has no effect on field 0. Two tables of E1 tie field 0
-- to field 1, which have no table in common. Assumes nothing.
use Prim.Native.Nat.{ℕ, zero, suc}
use mathlib.Core.Path.{◌≡◌, refl, sym}
use mathlib.Core.Bool.{false}
use mathlib.Core.List.{List, [], ◌∷◌}
use native.Mathlib.Omega.{arith}
use Rattle.format.specs.Format.{Table, Book}
use Rattle.format.proofs.Booleans.{T_false}
use Rattle.consistency.specs.Largest.{largest}
use Rattle.consistency.specs.Ties.{FieldIn, Tied}
use Rattle.consistency.proofs.Largest.{largest_is}
use Rattle.consistency.proofs.Chains.{untied_table}
use Rattle.consistency.proofs.AlikeExample.{example}

-- two fields of two codes, with no table, and with a table on field 1 that has no rows
abbrev free : Book
free = record { version = 1; counts = 2 ∷ 2 ∷ []; tables = [] }

abbrev emptying : Table
emptying = record { fields = 1 ∷ []; rows = [] }

abbrev emptied : Book
emptied = record { version = 1; counts = 2 ∷ 2 ∷ []; tables = emptying ∷ [] }

-- without tables a field is tied to itself alone
alone : {g : ℕ} → Tied free 0 g → g ≡ 0
alone Tied.here = refl
alone (Tied.step t i l w h v) = absurd (omega arith)

-- the table has field 1 alone
only_field : {h : ℕ} → FieldIn h emptying → h ≡ 1
only_field (zero, l, e) = sym e
only_field (suc j, l, e) = absurd (omega arith)

-- no code of field 1 stands
pub field_1_empty : (a : List ℕ) (c : ℕ) → largest emptied a 1 c ≡ false
field_1_empty a c =
    T_false (λ t. let s = (largest_is emptied a).fits.consistent 1 c t 0 (omega arith) 0 (omega arith) refl in omega (arith, s.row_in))

-- those of field 0 stand as without the table
pub field_0_same : (a : List ℕ) (c : ℕ) → largest emptied a 0 c ≡ largest free a 0 c
field_0_same a = untied_table free a 0 emptying (λ h w t. omega (arith, alone t, only_field w)) 0 Tied.here

-- field 0, by E1's first table, field 2, by its second, field 1
pub chain_of_two : Tied example 0 1
chain_of_two =
    let first : Tied example 0 2 = Tied.step Tied.here 0 (omega arith) (0, omega arith, refl) 2 (1, omega arith, refl) in
    Tied.step first 1 (omega arith) (1, omega arith, refl) 1 (0, omega arith, refl)
