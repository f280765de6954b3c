-- Places of codes in a table's rows, and the rows of a run of tables. Assumes nothing.
use mathlib.Core.Path.{◌≡◌, ap, ◌∙◌}
use mathlib.Core.List.{List}
use Prim.Native.Nat.{ℕ, suc, ◌+◌, ◌-◌, ◌*◌, ◌/◌, ◌%◌, ◌≤◌, ◌<◌}
use native.Mathlib.Nat.{le_refl, mul-le-mul, mul-add-mod_self_right, mod-eq_of_lt, mod-lt, div-add-mod', div-lt_iff_lt-mul}
use native.Mathlib.Omega.{arith}
use Rattle.format.specs.Format.{row_total, rows_of, table_end, tables_at}
use Rattle.format.proofs.Views.{table_rows}

-- ---- the code of row r in column j, in rows of a codes from start on

-- it stands before the end of n rows
pub cell_within : (a n r j : ℕ) → r < n → j < a → r * a + j < n * a
cell_within a n r j h k = omega (arith, mul-le-mul h (le_refl a))

-- its column, from its place
pub cell_column : (start a r j : ℕ) → j < a → (start + r * a + j - start) % a ≡ j
cell_column start a r j h =
    let d : start + r * a + j - start ≡ r * a + j = omega arith in
    rw d (mul-add-mod_self_right r a j ∙ mod-eq_of_lt h)

-- a place that is that of a row and a column
pub record Cell (start a n i : ℕ) : Type 0 where
  pub row : ℕ
  pub column : ℕ
  pub in_rows : row < n
  pub in_row : column < a
  pub here : start + row * a + column ≡ i

-- each place of the rows is such a place
pub cell_of : (start a n i : ℕ) → 1 ≤ a → start ≤ i → i < start + n * a → Cell start a n i
cell_of start a n i h l u =
    record {
      row = (i - start) / a;
      column = (i - start) % a;
      in_rows = (div-lt_iff_lt-mul h).1 (omega arith);
      in_row = mod-lt (i - start) h;
      here = omega (arith, div-add-mod' (i - start) a);
    }

-- ---- the rows of tables

-- those of the first table, and those of the rest
pub row_total_lem : (s : List ℕ) (p n : ℕ) → row_total (tables_at s p (suc n)) ≡ rows_of s p + row_total (tables_at s (table_end s p) n)
unfolding tables_at
row_total_lem s p n = ap (λ (k : ℕ). k + row_total (tables_at s (table_end s p) n)) (table_rows s p)
