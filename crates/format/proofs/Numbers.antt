-- A refusal of a book has a number from 1 to 13, and as its place a byte of the book, or 0 for number 1. Assumes nothing.
use mathlib.Core.Path.{◌≡◌, refl, subst}
use mathlib.Core.Bool.{true}
use mathlib.Core.List.{List}
use Prim.Native.Nat.{ℕ, zero, suc, ◌+◌, ◌-◌, ◌≤◌, ◌<◌}
use native.Mathlib.Omega.{arith}
use lib.Dec.{leb, ltb, eqb}
use lib.ListN.{length}
use borrow.Author.Tests.{leb-true, ltb-true}
use Rattle.format.specs.Basics.{between, first_bad}
use Rattle.format.specs.Format.{field_limit, arity_limit, table_limit, row_limit, length_limit, closing_byte, byte, list_place, field_count, table_count, version_of, arity_at, rows_of, first_row, table_end}
use Rattle.format.specs.Reading.{Verdict, pass, fail, and_then, Step, next, stop, after_step, trailer_test, counts_test, list_test, count_ok, field_ok, code_ok, fields_step, codes_step, rows_step, table_step, tables_step, last_test, trailer_verdict, body_verdict, verdict, BookRefusal, of_length, of_byte}
use Rattle.format.proofs.Picks.{pick_holds, pick_cases, between_true}
use Rattle.format.proofs.Trailer.{TrailerGood, trailer_good}

-- ---- of n bytes

-- a verdict's refusal is one of theirs
data Numbered (n : ℕ) : Verdict → Type 0 where
  passed : Numbered n pass
  failed : {number place : ℕ} → BookRefusal n number place → Numbered n (fail number place)

-- a number from 2 to 13 and a byte of theirs
at_byte : {n number place : ℕ} → between 2 13 number ≡ true → place < n → BookRefusal n number place
at_byte {n} {number} k l = let h = between_true 2 13 number k in of_byte h.0 h.1 l

-- 1 to 6
trailer_numbered : (n closing limit fields tables list : ℕ) → Numbered n (trailer_test n closing limit fields tables list)
unfolding trailer_test
trailer_numbered n closing limit fields tables list =
    pick_cases (Numbered n) (between 6 length_limit n)
    (λ e.
    let h = between_true 6 length_limit n e in
    pick_holds (Numbered n) (eqb closing closing_byte)
    (pick_holds (Numbered n) (leb 1 limit)
    (pick_holds (Numbered n) (between 1 limit fields)
    (pick_holds (Numbered n) (leb tables table_limit)
    (pick_holds (Numbered n) (eqb (list + fields + 6) n) passed (failed (at_byte refl (omega (arith, h.0)))))
    (failed (at_byte refl (omega (arith, h.0)))))
    (failed (at_byte refl (omega (arith, h.0)))))
    (failed (at_byte refl (omega (arith, h.0)))))
    (failed (at_byte refl (omega (arith, h.0)))))
    (λ e. failed of_length)

-- 7
counts_numbered : (n bad end : ℕ) → end ≤ n → Numbered n (counts_test bad end)
counts_numbered n bad end l =
    pick_cases (Numbered n) (ltb bad end) (λ e. failed (at_byte refl (omega (arith, ltb-true bad end e)))) (λ e. passed)

-- two verdicts in turn
then_numbered : (n : ℕ) (v w : Verdict) → Numbered n v → (v ≡ pass → Numbered n w) → Numbered n (and_then v w)
then_numbered n pass w k l = l refl
then_numbered n (fail number place) w k l = k

-- ---- the tables, before a field list that begins within the n bytes

module _ (s : List ℕ) (n list : ℕ) (within : list < n) where
  -- a table that ends before the field list, or a refusal
  data StepNumbered : Step → Type 0 where
    gone : {at rows : ℕ} → at ≤ list → StepNumbered (next at rows)
    stopped : {number place : ℕ} → BookRefusal n number place → StepNumbered (stop number place)

  -- 8, 12, 11
  rows_numbered : (at rows : ℕ) → at < list → StepNumbered (rows_step s list at rows)
  unfolding rows_step
  rows_numbered at rows l =
      pick_cases StepNumbered (leb (table_end s at) list)
      (λ e.
      pick_holds StepNumbered (leb (rows + rows_of s at) row_limit)
      (codes (leb-true (table_end s at) list e) (first_bad (code_ok s list (at + 1) (arity_at s at) (first_row s at)) (first_row s at) (table_end s at)))
      (stopped (at_byte refl (omega arith))))
      (λ e. stopped (at_byte refl (omega arith)))
    where
      codes : table_end s at ≤ list → (bad : ℕ) → StepNumbered (codes_step bad (table_end s at) (next (table_end s at) (rows + rows_of s at)))
      codes h bad =
          pick_cases StepNumbered (ltb bad (table_end s at)) (λ e. stopped (at_byte refl (omega (arith, ltb-true bad (table_end s at) e)))) (λ e. gone h)

  -- 8, 9, 8, 10, then its rows
  table_numbered : (fields at rows : ℕ) → at ≤ list → StepNumbered (table_step s list fields at rows)
  unfolding table_step
  table_numbered fields at rows l =
      pick_cases StepNumbered (ltb at list)
      (λ e.
      let a : at < list = ltb-true at list e in
      pick_holds StepNumbered (between 1 arity_limit (arity_at s at))
      (pick_cases StepNumbered (leb (first_row s at) list)
      (λ f. numbers a (leb-true (first_row s at) list f) (first_bad (field_ok s fields (at + 1)) (at + 1) (at + 1 + arity_at s at)))
      (λ f. stopped (at_byte refl (omega arith))))
      (stopped (at_byte refl (omega arith))))
      (λ e. stopped (at_byte refl (omega arith)))
    where
      numbers : at < list → first_row s at ≤ list → (bad : ℕ) → StepNumbered (fields_step bad (at + 1 + arity_at s at) (rows_step s list at rows))
      numbers a h bad =
          pick_cases StepNumbered (ltb bad (at + 1 + arity_at s at))
          (λ e. stopped (at_byte refl (omega (arith, ltb-true bad (at + 1 + arity_at s at) e)))) (λ e. rows_numbered at rows a)

  -- two steps in turn
  after_numbered : (st : Step) (go : ℕ → ℕ → Step) → StepNumbered st → ((at rows : ℕ) → at ≤ list → StepNumbered (go at rows)) → StepNumbered (after_step st go)
  after_numbered (next at rows) go (gone l) g = g at rows l
  after_numbered (stop number place) go k g = k

  -- each table in turn
  tables_numbered : (fields k at rows : ℕ) → at ≤ list → StepNumbered (tables_step s list fields k at rows)
  unfolding tables_step
  tables_numbered fields zero at rows l = gone l
  tables_numbered fields (suc k) at rows l =
      after_numbered (table_step s list fields at rows) (λ at' rows'. tables_step s list fields k at' rows') (table_numbered fields at rows l)
      (λ at' rows' l'. tables_numbered fields k at' rows' l')

  -- 13
  last_numbered : (st : Step) → StepNumbered st → Numbered n (last_test list st)
  last_numbered (next at rows) k = pick_cases (Numbered n) (ltb at list) (λ e. failed (at_byte refl (omega (arith, ltb-true at list e)))) (λ e. passed)
  last_numbered (stop number place) (stopped k) = failed k

-- ---- all tests in turn

module _ (s : List ℕ) where
  body_numbered : TrailerGood (length s) (byte s (length s - 1)) (field_limit (version_of s)) (field_count s) (table_count s) (list_place s)
      → Numbered (length s) (body_verdict s (list_place s) (field_count s) (table_count s))
  unfolding list_test
  body_numbered g =
      let n : ℕ = length s in
      let list : ℕ = list_place s in
      let end : ℕ = list + field_count s in
      let tables : Step = tables_step s list (field_count s) (table_count s) 0 0 in
      let within : list < n = omega (arith, g.whole) in
      then_numbered n (list_test s list (field_count s)) (last_test list tables) (counts_numbered n (first_bad (count_ok s) list end) end (omega (arith, g.whole)))
      (λ e. last_numbered s n list within tables (tables_numbered s n list within (field_count s) (table_count s) 0 0 (omega arith)))

  numbered : Numbered (length s) (verdict s)
  unfolding verdict
  numbered =
      let n : ℕ = length s in
      let closing : ℕ = byte s (n - 1) in
      then_numbered n (trailer_verdict s) (body_verdict s (list_place s) (field_count s) (table_count s))
      (trailer_numbered n closing (field_limit (version_of s)) (field_count s) (table_count s) (list_place s))
      (λ e. body_numbered (trailer_good n closing (field_limit (version_of s)) (field_count s) (table_count s) (list_place s) e))

  -- the number and the place of a refusal
  pub book_refusal : {number place : ℕ} → verdict s ≡ fail number place → BookRefusal (length s) number place
  book_refusal {number} {place} e = known (subst (Numbered (length s)) e numbered)
    where
      known : Numbered (length s) (fail number place) → BookRefusal (length s) number place
      known (failed k) = k

  -- its number
  pub fail_number : (number place : ℕ) → verdict s ≡ fail number place → (1 ≤ number) × (number ≤ 13)
  fail_number number place e = known (book_refusal e)
    where
      known : {number place : ℕ} → BookRefusal (length s) number place → (1 ≤ number) × (number ≤ 13)
      known of_length = (omega arith, omega arith)
      known (of_byte l u h) = (omega arith, omega arith)
