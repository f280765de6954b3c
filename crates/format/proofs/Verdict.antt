-- All of the reader's tests pass exactly where the bytes keep the reader's promise. Assumes nothing.
use mathlib.Core.Path.{◌≡◌, refl, sym, ap, ◌∙◌}
use mathlib.Core.List.{List}
use Prim.Native.Nat.{ℕ, ◌+◌, ◌-◌, ◌≤◌, zero-le}
use native.Mathlib.Nat.{zero-add}
use native.Mathlib.Omega.{arith}
use lib.Dec.{ltb}
use lib.ListN.{length}
use borrow.Author.Tests.{ltb-false}
use Rattle.format.specs.Format.{field_limit, row_total, byte, list_place, field_count, table_count, version_of, book_of}
use Rattle.format.specs.Promise.{Promise, place}
use Rattle.format.specs.Reading.{Verdict, pass, fail, and_then, Step, next, stop, trailer_test, list_test, tables_step, last_test, verdict}
use Rattle.format.proofs.Picks.{pick_second}
use Rattle.format.proofs.Refusals.{last_pass, verdict_tables}
use Rattle.format.proofs.Trailer.{fail≢pass, TrailerGood, trailer_good, good_trailer, list_sized, sized_list}
use Rattle.format.proofs.AllTables.{tables_good, good_tables}

-- where two verdicts in turn pass, each does
both_pass : (v w : Verdict) → and_then v w ≡ pass → (v ≡ pass) × (w ≡ pass)
both_pass pass w e = (refl, e)
both_pass (fail number place) w e = absurd (fail≢pass e)

-- the tables ended at the field list or behind its start
record Ended (list : ℕ) (st : Step) : Type 0 where
  at : ℕ
  rows : ℕ
  ends : st ≡ next at rows
  behind : list ≤ at

-- so they did where the last test passes
ended : (list : ℕ) (st : Step) → last_test list st ≡ pass → Ended list st
ended list (next at rows) e =
    record { at = at; rows = rows; ends = refl; behind = ltb-false at list (pick_second (ltb at list) fail≢pass e).0 }
ended list (stop number place) e = absurd (fail≢pass e)

module _ (s : List ℕ) where
  -- bytes that pass keep the promise
  pub verdict_promise : verdict s ≡ pass → Promise s
  unfolding verdict book_of place
  verdict_promise e =
      let trailer = trailer_test (length s) (byte s (length s - 1)) (field_limit (version_of s)) (field_count s) (table_count s) (list_place s) in
      let list = list_test s (list_place s) (field_count s) in
      let tables = tables_step s (list_place s) (field_count s) (table_count s) 0 0 in
      let e1 = both_pass trailer (and_then list (last_test (list_place s) tables)) e in
      let e2 = both_pass list (last_test (list_place s) tables) e1.1 in
      let t = trailer_good (length s) (byte s (length s - 1)) (field_limit (version_of s)) (field_count s) (table_count s) (list_place s) e1.0 in
      let l = ended (list_place s) tables e2.1 in
      let g = tables_good s (table_count s) 0 0 l.at l.rows l.ends in
      let end : l.at ≡ place s (table_count s) = g.end ∙ ap (place s) (zero-add (table_count s)) in
      record {
        short = t.short;
        closed = t.closed;
        whole = t.whole;
        some = t.some;
        few = t.few;
        sized = list_sized s (list_place s) (field_count s) e2.0;
        tables_few = t.tables_few;
        rows_few = omega (arith, g.total, g.few zero-le);
        tables = λ i h. g.promises i zero-le (omega arith);
        last = omega (arith, l.behind, g.within zero-le);
      }

  -- the trailer's part of the promise
  promise_trailer : Promise s
      → TrailerGood (length s) (byte s (length s - 1)) (field_limit (version_of s)) (field_count s) (table_count s) (list_place s)
  promise_trailer p =
      record {
        long = omega (arith, p.whole);
        short = p.short;
        closed = p.closed;
        some = p.some;
        few = p.few;
        tables_few = p.tables_few;
        whole = p.whole;
      }

  -- bytes that keep the promise pass
  pub promise_verdict : Promise s → verdict s ≡ pass
  unfolding book_of place
  promise_verdict p =
      let tables = good_tables s (table_count s) 0 0 (λ k l u. p.tables k (omega arith)) (omega (arith, p.rows_few)) in
      let end : place s (0 + table_count s) ≡ list_place s = ap (place s) (zero-add (table_count s)) ∙ p.last in
      sym
      (last_pass (list_place s) (place s (0 + table_count s)) (0 + row_total (book_of s).tables) (omega arith)
      ∙ (ap (last_test (list_place s)) (sym tables)
      ∙ verdict_tables s (sym (good_trailer _ _ _ _ _ _ (promise_trailer p))) (sym (sized_list s (list_place s) (field_count s) p.sized))))
