-- How large the printed numbers are, in a book within the limits: the lines of alternatives and of open codes together, and the different
-- rows. Assumes nothing.
use mathlib.Core.Bool.{Bool, true, false, not, ◌&&◌}
use mathlib.Core.List.{List, [], ◌∷◌}
use Prim.Native.Nat.{ℕ, zero, suc, ◌+◌, ◌*◌, ◌≤◌}
use native.Mathlib.Omega.{arith}
use lib.ListN.{length}
use Rattle.format.specs.Basics.{pick}
use Rattle.format.specs.Format.{Book, Table, code_limit, is_in, different, row_total, different_total}
use Rattle.consistency.specs.Counting.{how_many}
use Rattle.consistency.specs.Consistency.{places, Sheet, backed}
use Rattle.consistency.specs.Largest.{largest}
use Rattle.consistency.specs.Counts.{answered, in_doubt, listed, lines}
use Rattle.consistency.proofs.Sums.{many_not}
use Rattle.consistency.proofs.Lines.{length_picked}
use Rattle.consistency.proofs.Limits.{picked_few}
use Rattle.calls.proofs.Sheets.{Within}
use Rattle.report.specs.Text.{open_lines}

-- ---- different rows

-- a row is counted once or not at all
one_at_most : (x : Bool) (n m : ℕ) → n ≤ m → pick x 0 1 + n ≤ suc m
one_at_most true n m l = omega arith
one_at_most false n m l = omega arith

-- a table has no more different rows than rows
different_few : (rows : List (List ℕ)) → different rows ≤ length rows
different_few [] = omega arith
different_few (r ∷ rs) = one_at_most (is_in r rs) (different rs) (length rs) (different_few rs)

-- and so it is of all tables
pub different_total_few : (ts : List Table) → different_total ts ≤ row_total ts
different_total_few [] = omega arith
different_total_few (t ∷ ts) = omega (arith, different_few t.rows, different_total_few ts)

-- ---- lines

-- where both tests pass, the first does
both_first : (x y : Bool) → pick {A = ℕ} (x && y) 1 0 ≤ pick x 1 0
both_first true true = omega arith
both_first true false = omega arith
both_first false y = omega arith

-- a narrower test holds of no more numbers
many_narrower : (n : ℕ) (p q : ℕ → Bool) → how_many n (λ k. p k && q k) ≤ how_many n p
many_narrower zero p q = omega arith
many_narrower (suc n) p q = omega (arith, many_narrower n p q, both_first (p n) (q n))

-- each code has one line at most: an answered field has alt lines only, an unanswered one open lines only
pub lines_few : (b : Book) (w : Within b) (s : Sheet) → length (lines b s) + length (open_lines b s.answers) ≤ places * code_limit
unfolding lines open_lines
lines_few b w s =
    let n : ℕ = length b.counts in
    let a : List ℕ = s.answers in
    let alts = picked_few b w.small n (in_doubt s) (listed b a) in
    let opens = picked_few b w.small n (λ f. not (answered a f)) (largest b a) in
    omega (
      arith,
      length_picked b (in_doubt s) (listed b a),
      length_picked b (λ f. not (answered a f)) (largest b a),
      many_narrower n (answered a) (λ f. not (backed s f)),
      many_not n (answered a),
      w.few,
    )
