-- Each way through the reader's tests: the tests passed so far and the one that fails give the refusal, all passed give the next step. A law's name has the refusal's number. Assumes nothing.
use mathlib.Core.Path.{◌≡◌, refl}
use mathlib.Core.List.{List, [], ◌∷◌}
use Prim.Native.Nat.{ℕ, zero, suc, ◌+◌, ◌-◌, ◌*◌, ◌≤◌, ◌<◌}
use native.Mathlib.Omega.{arith}
use borrow.Author.Tests.{le-leb, lt-leb, lt-ltb, le-ltb, eq-eqb, ne_eqb}
use lib.ListN.{length}
use Rattle.format.specs.Basics.{first_bad}
use Rattle.format.specs.Format.{field_limit, arity_limit, table_limit, row_limit, length_limit, closing_byte, row_total, book_counts, byte, le16, list_place, field_count, table_count, version_of, arity_at, book_of}
use Rattle.format.specs.Reading.{refused, accepted, pass, fail, next, stop, after_step, trailer_test, count_ok, list_test, field_ok, code_ok, rows_step, table_step, tables_step, last_test, verdict, reading, checking}

-- ---- the trailer

module _ (n closing limit fields tables list : ℕ) where
  -- fewer than 6 bytes
  pub trailer_1_short : n < 6 → fail 1 0 ≡ trailer_test n closing limit fields tables list
  unfolding trailer_test
  trailer_1_short h = simp lt-leb

  -- more bytes than the limit
  pub trailer_1_long : 6 ≤ n → length_limit < n → fail 1 0 ≡ trailer_test n closing limit fields tables list
  unfolding trailer_test
  trailer_1_long h h' = simp (le-leb, lt-leb)

  module _ (h1 : 6 ≤ n) (h1' : n ≤ length_limit) where
    -- another closing byte
    pub trailer_2_closing : (closing ≡ closing_byte → ⊥) → fail 2 (n - 1) ≡ trailer_test n closing limit fields tables list
    unfolding trailer_test
    trailer_2_closing h = simp (le-leb, ne_eqb)

    module _ (h2 : closing ≡ closing_byte) where
      -- a number that is no version: it allows no field
      pub trailer_3_version : limit < 1 → fail 3 (n - 2) ≡ trailer_test n closing limit fields tables list
      unfolding trailer_test
      trailer_3_version h = simp (le-leb, eq-eqb, lt-leb)

      module _ (h3 : 1 ≤ limit) where
        -- no field
        pub trailer_4_none : fields < 1 → fail 4 (n - 4) ≡ trailer_test n closing limit fields tables list
        unfolding trailer_test
        trailer_4_none h = simp (le-leb, eq-eqb, lt-leb)

        module _ (h4 : 1 ≤ fields) where
          -- more fields than the version allows
          pub trailer_4_many : limit < fields → fail 4 (n - 4) ≡ trailer_test n closing limit fields tables list
          unfolding trailer_test
          trailer_4_many h = simp (le-leb, eq-eqb, lt-leb)

          module _ (h4' : fields ≤ limit) where
            -- more tables than the limit
            pub trailer_5_tables : table_limit < tables → fail 5 (n - 3) ≡ trailer_test n closing limit fields tables list
            unfolding trailer_test
            trailer_5_tables h = simp (le-leb, eq-eqb, lt-leb)

            module _ (h5 : tables ≤ table_limit) where
              -- place, fields and trailer do not make up the length
              pub trailer_6_place : (list + fields + 6 ≡ n → ⊥) → fail 6 (n - 6) ≡ trailer_test n closing limit fields tables list
              unfolding trailer_test
              trailer_6_place h = simp (le-leb, eq-eqb, ne_eqb)

              -- every test of the trailer passed
              pub trailer_pass : list + fields + 6 ≡ n → pass ≡ trailer_test n closing limit fields tables list
              unfolding trailer_test
              trailer_pass h = simp (le-leb, eq-eqb)

-- ---- the field list: bad is its first wrong number of codes, or its end

module _ (s : List ℕ) (list fields bad : ℕ) (e : bad ≡ first_bad (count_ok s) list (list + fields)) where
  -- a wrong number of codes
  pub list_7_count : bad < list + fields → fail 7 bad ≡ list_test s list fields
  unfolding list_test
  list_7_count h = simp (← e, lt-ltb)

  -- no wrong number of codes
  pub list_pass : list + fields ≤ bad → pass ≡ list_test s list fields
  unfolding list_test
  list_pass h = simp (← e, le-ltb)

-- ---- the rows of the table at at: a codes in each of n rows; bad is the first code at fault, or their end

module _ (s : List ℕ) (list at rows a n : ℕ) (ea : a ≡ arity_at s at) (en : n ≡ le16 s (at + 1 + a)) where
  -- the rows do not fit before the field list
  pub rows_8_short : list < at + 3 + a + n * a → stop 8 at ≡ rows_step s list at rows
  unfolding rows_step
  rows_8_short h = simp (← ea, ← en, lt-leb)

  module _ (h8 : at + 3 + a + n * a ≤ list) where
    -- more rows so far than the limit
    pub rows_12_many : row_limit < rows + n → stop 12 at ≡ rows_step s list at rows
    unfolding rows_step
    rows_12_many h = simp (← ea, ← en, le-leb, lt-leb)

    module _ (h12 : rows + n ≤ row_limit) (bad : ℕ)
        (e : bad ≡ first_bad (code_ok s list (at + 1) a (at + 3 + a)) (at + 3 + a) (at + 3 + a + n * a)) where
      -- a code too large
      pub rows_11_code : bad < at + 3 + a + n * a → stop 11 bad ≡ rows_step s list at rows
      unfolding rows_step
      rows_11_code h = simp (← ea, ← en, le-leb, ← e)

      -- the table ends
      pub rows_next : at + 3 + a + n * a ≤ bad → next (at + 3 + a + n * a) (rows + n) ≡ rows_step s list at rows
      unfolding rows_step
      rows_next h = simp (← ea, ← en, le-leb, ← e, le-ltb)

-- ---- the table at at: a fields; bad is the first field number at fault, or their end

module _ (s : List ℕ) (list fields at rows : ℕ) where
  -- no byte left before the field list
  pub table_8_none : list ≤ at → stop 8 at ≡ table_step s list fields at rows
  unfolding table_step
  table_8_none h = simp le-ltb

  module _ (h8 : at < list) (a : ℕ) (ea : a ≡ arity_at s at) where
    -- no field
    pub table_9_none : a < 1 → stop 9 at ≡ table_step s list fields at rows
    unfolding table_step
    table_9_none h = simp (lt-ltb, ← ea, lt-leb)

    module _ (h9 : 1 ≤ a) where
      -- more fields than the limit
      pub table_9_many : arity_limit < a → stop 9 at ≡ table_step s list fields at rows
      unfolding table_step
      table_9_many h = simp (lt-ltb, ← ea, le-leb, lt-leb)

      module _ (h9' : a ≤ arity_limit) where
        -- field numbers and number of rows do not fit before the field list
        pub table_8_head : list < at + 3 + a → stop 8 at ≡ table_step s list fields at rows
        unfolding table_step
        table_8_head h = simp (lt-ltb, ← ea, le-leb, lt-leb)

        module _ (h8' : at + 3 + a ≤ list) (bad : ℕ)
            (e : bad ≡ first_bad (field_ok s fields (at + 1)) (at + 1) (at + 1 + a)) where
          -- a field number too large or not rising
          pub table_10_field : bad < at + 1 + a → stop 10 bad ≡ table_step s list fields at rows
          unfolding table_step
          table_10_field h = simp (lt-ltb, ← ea, le-leb, ← e)

          -- the rows decide
          pub table_fields_pass : at + 1 + a ≤ bad → rows_step s list at rows ≡ table_step s list fields at rows
          unfolding table_step
          table_fields_pass h = simp (lt-ltb, ← ea, le-leb, ← e, le-ltb)

-- ---- n tables from at on

module _ (s : List ℕ) (list fields : ℕ) where
  -- no table left
  pub tables_none : (n at rows : ℕ) → n ≤ 0 → next at rows ≡ tables_step s list fields n at rows
  unfolding tables_step
  tables_none zero at rows h = refl
  tables_none (suc n) at rows h = absurd (omega arith)

  -- the first table decides how to go on
  pub tables_some : (n at rows : ℕ) → 0 < n
      → after_step (table_step s list fields at rows) (λ at' rows'. tables_step s list fields (n - 1) at' rows')
      ≡ tables_step s list fields n at rows
  unfolding tables_step
  tables_some zero at rows h = absurd (omega arith)
  tables_some (suc n) at rows h = let d : suc n - 1 ≡ n = omega arith in simp d

  module _ (n at rows : ℕ) (h : 0 < n) where
    -- the first table is refused
    pub tables_stop : (number place : ℕ) → stop number place ≡ table_step s list fields at rows
        → stop number place ≡ tables_step s list fields n at rows
    tables_stop number place e = rw (← e) at (tables_some n at rows h)

    -- the first table ends
    pub tables_next : (at' rows' : ℕ) → next at' rows' ≡ table_step s list fields at rows
        → tables_step s list fields (n - 1) at' rows' ≡ tables_step s list fields n at rows
    tables_next at' rows' e = rw (← e) at (tables_some n at rows h)

-- ---- behind the last table

module _ (list at rows : ℕ) where
  -- bytes left over before the field list
  pub last_13_left : at < list → fail 13 at ≡ last_test list (next at rows)
  last_13_left h = simp lt-ltb

  -- no bytes left over
  pub last_pass : list ≤ at → pass ≡ last_test list (next at rows)
  last_pass h = simp le-ltb

-- ---- all tests in turn

module _ (s : List ℕ) where
  -- the trailer is refused
  pub verdict_trailer : (number place : ℕ)
      → fail number place
      ≡ trailer_test (length s) (byte s (length s - 1)) (field_limit (version_of s)) (field_count s) (table_count s) (list_place s)
      → fail number place ≡ verdict s
  unfolding verdict
  verdict_trailer number place e = simp (← e)

  module _
      (p : pass ≡ trailer_test (length s) (byte s (length s - 1)) (field_limit (version_of s)) (field_count s) (table_count s) (list_place s)) where
    -- the field list is refused
    pub verdict_list : (number place : ℕ) → fail number place ≡ list_test s (list_place s) (field_count s)
        → fail number place ≡ verdict s
    unfolding verdict
    verdict_list number place e = simp (← p, ← e)

    -- the tables decide
    pub verdict_tables : pass ≡ list_test s (list_place s) (field_count s)
        → last_test (list_place s) (tables_step s (list_place s) (field_count s) (table_count s) 0 0) ≡ verdict s
    unfolding verdict
    verdict_tables e = simp (← p, ← e)

-- ---- what reading and checking answer, from the verdict

module _ (s : List ℕ) where
  module _ (e : pass ≡ verdict s) where
    -- every test passed: the counts of the book
    pub reading_pass : accepted (book_counts (book_of s)) ≡ reading s
    unfolding reading
    reading_pass = simp (← e)

    -- every test passed: place of the field list, fields, tables, rows
    pub checking_pass : accepted (list_place s ∷ field_count s ∷ table_count s ∷ row_total (book_of s).tables ∷ []) ≡ checking s
    unfolding checking
    checking_pass = simp (← e)

  module _ (number place : ℕ) (e : fail number place ≡ verdict s) where
    -- a refusal: all counts are 0
    pub checking_fail : refused 4 number place ≡ checking s
    unfolding checking
    checking_fail = simp (← e)
