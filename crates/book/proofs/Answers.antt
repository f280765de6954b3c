-- From the parts' answers to the whole: what each way through check and read answers. Assumes nothing.
use mathlib.Core.Path.{◌≡◌, refl, sym, ap, ◌∙◌}
use mathlib.Core.List.{List, [], ◌∷◌}
use Prim.Native.Nat.{ℕ, ◌≤◌, ◌<◌}
use native.Mathlib.Omega.{arith}
use lib.ListN.{length}
use Rattle.format.specs.Format.{row_limit, list_place, field_count, table_count, row_total, different_total, book_counts, book_of}
use Rattle.format.specs.Promise.{place, Promise}
use Rattle.format.specs.Reading.{Outcome, accepted, refused, Verdict, pass, fail, next, stop, trailer_verdict, list_test, table_step, tables_step, last_test, verdict, outcome, reading, checking}
use Rattle.format.proofs.Views.{counts_count, tables_count}
use Rattle.format.proofs.Refusals.{verdict_list, verdict_tables, last_13_left, last_pass, reading_pass, checking_pass, checking_fail}
use Rattle.format.proofs.Trailer.{trailer_good}
use Rattle.format.proofs.TableTests.{table_good}
use Rattle.format.proofs.AllTables.{tables_good}
use Rattle.format.proofs.Verdict.{verdict_promise, promise_verdict}
use Rattle.format.proofs.Accepted.{checked_verdict}
use Rattle.book.specs.Bounds.{BodyFits}
use Rattle.book.specs.View.{Viewed}

module _ (s : List ℕ) where
  -- behind a table that passes, the rows so far are within the limit
  pub step_few : (list fields at rows at' rows' : ℕ) → BodyFits s list fields
      → next at' rows' ≡ table_step s list fields at rows → rows' ≤ row_limit
  step_few list fields at rows at' rows' f e =
      (table_good s at rows at' rows' (sym (rw (f.list_is, f.fields_is) at e))).few

  -- ---- checking, where the trailer passes

  module _ (p : pass ≡ trailer_verdict s) where
    -- the trailer lies within the bytes
    pub trailer_long : 6 ≤ length s
    trailer_long = (trailer_good _ _ _ _ _ _ (sym p)).long

    -- and so does the field list
    pub body_fits : (list fields : ℕ) → list ≡ list_place s → fields ≡ field_count s → BodyFits s list fields
    body_fits list fields el ef =
        let t = trailer_good _ _ _ _ _ _ (sym p) in
        record { short = t.short; list_is = el; fields_is = ef; within = omega (arith, t.whole) }

    -- list, fields and tables: the numbers read from the trailer
    module _ (list fields tables : ℕ) (el : list ≡ list_place s) (ef : fields ≡ field_count s) (et : tables ≡ table_count s) where
      -- 7
      pub check_list : (number place : ℕ) → fail number place ≡ list_test s list fields → refused 4 number place ≡ checking s
      check_list number place e = checking_fail s number place (verdict_list s p number place (rw (el, ef) at e))

      module _ (l : pass ≡ list_test s list fields) where
        -- the tables and the last test decide
        tested : last_test list (tables_step s list fields tables 0 0) ≡ verdict s
        tested = rw (el, ef, et) (verdict_tables s p (rw (el, ef) at l))

        -- 8 to 12
        pub check_stop : (number place : ℕ) → stop number place ≡ tables_step s list fields tables 0 0
            → refused 4 number place ≡ checking s
        check_stop number place e = checking_fail s number place (ap (last_test list) e ∙ tested)

        module _ (at rows : ℕ) (e : next at rows ≡ tables_step s list fields tables 0 0) where
          -- 13
          pub check_left : at < list → refused 4 13 at ≡ checking s
          check_left h = checking_fail s 13 at (last_13_left list at rows h ∙ (ap (last_test list) e ∙ tested))

          -- the rows so far, behind the last table, are the book's
          rows_are : rows ≡ row_total (book_of s).tables
          unfolding book_of place
          rows_are = omega (arith, (tables_good s (table_count s) 0 0 at rows (sym (rw (el, ef, et) at e))).total)

          -- accepted
          pub check_good : list ≤ at → accepted (list ∷ fields ∷ tables ∷ rows ∷ []) ≡ checking s
          check_good h =
              let q = last_pass list at rows h ∙ (ap (last_test list) e ∙ tested) in
              rw (rows_are, el, ef, et) (checking_pass s q)

  -- ---- reading

  -- a refusal is the same, whatever would have been counted
  pub read_bad : (number place : ℕ) → 1 ≤ number → refused 4 number place ≡ checking s → refused 4 number place ≡ reading s
  unfolding checking reading
  read_bad number place h e = e ∙ same (verdict s) _ _ (λ z. absurd (omega (arith, ap (λ (o : Outcome). o.number) e))) refl
    where
      same : (v : Verdict) (xs ys : List ℕ) → ((outcome v xs).number ≡ 0 → ⊥) → length xs ≡ length ys → outcome v xs ≡ outcome v ys
      same pass xs ys n d = absurd (n refl)
      same (fail number place) xs ys n d = ap (λ (k : ℕ). refused k number place) d

  -- of an accepted book, with these numbers from checking
  module _ (list fields tables rows : ℕ) (e : accepted (list ∷ fields ∷ tables ∷ rows ∷ []) ≡ checking s) where
    -- all tests passed
    passed : verdict s ≡ pass
    passed = checked_verdict s (sym (ap (λ (o : Outcome). o.number) e))

    -- the numbers are the trailer's and the book's
    counts_are : list ∷ fields ∷ tables ∷ rows ∷ [] ≡ list_place s ∷ field_count s ∷ table_count s ∷ row_total (book_of s).tables ∷ []
    counts_are = ap (λ (o : Outcome). o.counts) (e ∙ sym (checking_pass s (sym passed)))

    -- a view of the bytes with these numbers is a view of the book
    pub check_viewed : Viewed s list fields tables rows
    check_viewed =
        record {
          numbers =
              record {
                promise = verdict_promise s passed;
                list_is = cc counts_are;
                fields_is = cc counts_are;
                tables_is = cc counts_are;
              };
          rows_is = cc counts_are;
        }

  -- the numbers of a view, with the different rows of its tables, are what reading counts
  pub viewed_counts : (list fields tables rows different : ℕ) → Viewed s list fields tables rows → different ≡ different_total (book_of s).tables
      → fields ∷ tables ∷ rows ∷ different ∷ [] ≡ book_counts (book_of s)
  viewed_counts list fields tables rows different v d =
      rw (v.numbers.fields_is, v.numbers.tables_is, v.rows_is, d, counts_count s v.numbers.promise.whole, tables_count s) refl

  -- and are answered
  pub read_good : Promise s → (counts : List ℕ) → counts ≡ book_counts (book_of s) → accepted counts ≡ reading s
  read_good p counts e = rw e (reading_pass s (sym (promise_verdict s p)))
