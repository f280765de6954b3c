-- The tests of n tables from table i on pass exactly where each keeps the reader's promise and the rows are few enough. Assumes nothing.
use mathlib.Core.Path.{◌≡◌, refl, sym, ap, subst, ◌∙◌}
use mathlib.Core.Logic.{◌⊎◌, inl, inr}
use mathlib.Core.List.{List}
use Prim.Native.Nat.{ℕ, zero, suc, ◌+◌, ◌≤◌, ◌<◌}
use native.Mathlib.Nat.{add-zero, eq-or-lt_of_le}
use native.Mathlib.Omega.{arith}
use Rattle.format.specs.Format.{row_limit, row_total, list_place, field_count, rows_of, tables_at}
use Rattle.format.specs.Promise.{TablePromise, place}
use Rattle.format.specs.Reading.{Step, next, stop, after_step, table_step, tables_step}
use Rattle.format.proofs.Places.{row_total_lem}
use Rattle.format.proofs.TableTests.{stop≢next, TableGood, table_good, good_table}

-- two steps: the first ended at at, with rows, and the second from there
record Went (st : Step) (go : ℕ → ℕ → Step) (at' rows' : ℕ) : Type 0 where
  at : ℕ
  rows : ℕ
  first : st ≡ next at rows
  rest : go at rows ≡ next at' rows'

-- where two steps end, they went so
went : (st : Step) (go : ℕ → ℕ → Step) (at' rows' : ℕ) → after_step st go ≡ next at' rows' → Went st go at' rows'
went (next at rows) go at' rows' e = record { at = at; rows = rows; first = refl; rest = e }
went (stop number place) go at' rows' e = absurd (stop≢next e)

-- the same end
same_next : {at rows at' rows' : ℕ} → at ≡ at' → rows ≡ rows' → next at rows ≡ next at' rows'
same_next e e' = cc

-- n tables from table i on: each keeps the promise, they end at at', and rows' is the sum of rows, within the limit
pub record TablesGood (s : List ℕ) (n i rows at' rows' : ℕ) : Type 0 where
  pub promises : (k : ℕ) → i ≤ k → k < i + n → TablePromise s (place s k)
  pub end : at' ≡ place s (i + n)
  pub total : rows' ≡ rows + row_total (tables_at s (place s i) n)
  pub few : rows ≤ row_limit → rows' ≤ row_limit
  pub within : place s i ≤ list_place s → at' ≤ list_place s

module _ (s : List ℕ) where
  -- table i, then n tables behind it
  one_more : (n i rows at rows'' at' rows' : ℕ) → TableGood s (place s i) rows at rows'' → TablesGood s n (suc i) rows'' at' rows'
      → TablesGood s (suc n) i rows at' rows'
  unfolding place
  one_more n i rows at rows'' at' rows' t g =
      let d : suc i + n ≡ i + suc n = omega arith in
      record {
        promises = λ k l u. promised k (eq-or-lt_of_le l) u;
        end = g.end ∙ ap (place s) d;
        total = omega (arith, row_total_lem s (place s i) n, g.total, t.total);
        few = λ h. g.few t.few;
        within = λ h. g.within t.promise.ends;
      }
    where
      promised : (k : ℕ) → (i ≡ k) ⊎ (i < k) → k < i + suc n → TablePromise s (place s k)
      promised k (inl e) u = subst (λ (x : ℕ). TablePromise s (place s x)) e t.promise
      promised k (inr l) u = g.promises k l (omega arith)

  -- so it is where their tests end at at', with rows'
  pub tables_good : (n i rows at' rows' : ℕ) → tables_step s (list_place s) (field_count s) n (place s i) rows ≡ next at' rows'
      → TablesGood s n i rows at' rows'
  unfolding tables_step tables_at place
  tables_good zero i rows at' rows' e =
      let at : place s i ≡ at' = cc in
      let sum : rows ≡ rows' = cc in
      record {
        promises = λ k l u. absurd (omega arith);
        end = sym at ∙ ap (place s) (sym (add-zero i));
        total = omega arith;
        few = λ h. omega arith;
        within = λ h. omega arith;
      }
  tables_good (suc n) i rows at' rows' e =
      let go : ℕ → ℕ → Step = λ at rows''. tables_step s (list_place s) (field_count s) n at rows'' in
      let w = went (table_step s (list_place s) (field_count s) (place s i) rows) go at' rows' e in
      let t = table_good s (place s i) rows w.at w.rows w.first in
      one_more n i rows w.at w.rows at' rows' t
      (tables_good n (suc i) w.rows at' rows' (rw t.end at w.rest))

  -- where each keeps the promise and the sum is within the limit, their tests end
  pub good_tables : (n i rows : ℕ) → ((k : ℕ) → i ≤ k → k < i + n → TablePromise s (place s k))
      → rows + row_total (tables_at s (place s i) n) ≤ row_limit
      → tables_step s (list_place s) (field_count s) n (place s i) rows
      ≡ next (place s (i + n)) (rows + row_total (tables_at s (place s i) n))
  unfolding tables_step tables_at place
  good_tables zero i rows p h = simp add-zero
  good_tables (suc n) i rows p h =
      let total = row_total_lem s (place s i) n in
      let t = good_table s (place s i) rows (p i (omega arith) (omega arith)) (omega arith) in
      let r = good_tables n (suc i) (rows + rows_of s (place s i)) (λ k l u. p k (omega arith) (omega arith)) (omega arith) in
      let d : suc i + n ≡ i + suc n = omega arith in
      ap (λ (st : Step). after_step st (λ at' rows'. tables_step s (list_place s) (field_count s) n at' rows')) t
      ∙ (r ∙ same_next (ap (place s) d) (omega arith))
