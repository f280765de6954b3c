-- The search for rows for all codes of a column: what holds between two questions, and each way on. Assumes nothing.
use mathlib.Core.Path.{◌≡◌, sym, ◌∙◌, subst}
use mathlib.Core.List.{List}
use Prim.Native.Nat.{ℕ, ◌+◌, ◌-◌, ◌≤◌, ◌<◌}
use native.Mathlib.Omega.{arith}
use lib.Bits.{bit_xor}
use lib.ListN.{length, get_or, set}
use Rattle.format.specs.Format.{code_limit, table_at}
use Rattle.consistency.specs.Consistency.{code_of}
use Rattle.std.specs.Prelude.{Option, None}
use Rattle.book.specs.View.{TableIn}
use Rattle.filter.specs.declared.support.Found.{Found}
use Rattle.filter.specs.Support.{found, row_cases, first_from}
use Rattle.filter.specs.Revise.{Unsupported}
use Rattle.filter.specs.Asks.{Counted}
use Rattle.filter.proofs.Firsts.{FirstAt, FirstIs}
use Rattle.filter.proofs.Tables.{rows_of_lem, codes_small}
use Rattle.filter.proofs.RowSearch.{own_in, search_is}
use Rattle.filter.proofs.Needs.{needing_none}
use Rattle.filter.proofs.Remaining.{Remaining, remaining_next, remaining_end, remaining_zero, taken_some}

-- between two questions: the rows below from are passed
pub record Searching (s : List ℕ) (at rows j : ℕ) (M need left : List ℕ) (from : ℕ) : Type 0 where
  pub from_in : from ≤ rows
  pub remaining : Remaining M (table_at s at) j need left from

-- by another name
pub searching_as : {s : List ℕ} {at rows j from : ℕ} {M need left other : List ℕ} → other ≡ left → Searching s at rows j M need left from
    → Searching s at rows j M need other from
searching_as {s} {at} {rows} {j} {from} {M} {need} e = subst (λ (x : List ℕ). Searching s at rows j M need x from) (sym e)

module _ {s : List ℕ} {index at arity first rows : ℕ} (q : TableIn s index at arity first rows) {j : ℕ} (jl : j < arity) {M need left : List ℕ} {waiting from : ℕ}
    (h : Searching s at rows j M need left from) (k : Counted left waiting) where
  -- no code waits
  pub searching_done : waiting ≡ 0 → Unsupported M (table_at s at) j need left
  searching_done z =
      remaining_zero M (table_at s at) j (codes_small q) need left from h.remaining
      (needing_none left k.full (sym k.are ∙ z))

  -- the answer of a question
  module _ {x : Option Found} (e : x ≡ first_from (rows - from) from (row_cases M left (table_at s at) j)) where
    answer : FirstIs (length (table_at s at).rows) from (row_cases M left (table_at s at) j) x
    answer = search_is q from (row_cases M left (table_at s at) j) x h.from_in e

    -- no row supports anything that remains
    pub searching_ends : x ≡ None → Unsupported M (table_at s at) j need left
    searching_ends d =
        remaining_end M (table_at s at) j (codes_small q) need left from h.remaining
        (subst (FirstIs (length (table_at s at).rows) from (row_cases M left (table_at s at) j)) d answer)

    -- row r supports its own code in the cases v
    module _ {r v : ℕ} (d : x ≡ found r v) where
      first_at : FirstAt (length (table_at s at).rows) from (row_cases M left (table_at s at) j) r v
      first_at = subst (FirstIs (length (table_at s at).rows) from (row_cases M left (table_at s at) j)) d answer

      -- it is one of the rows left
      pub row_later : from ≤ r
      row_later = first_at.later

      pub row_below : r < rows
      row_below = subst (r <◌) (rows_of_lem q) first_at.below

      module _ {c : ℕ} (ce : c ≡ code_of (table_at s at) r j) where
        -- c is its code in column j
        pub code_below : c < code_limit
        code_below = own_in q r j row_below jl c ce

        remains : Remaining M (table_at s at) j need (set left c (bit_xor (get_or left c 0) v)) (r + 1)
        remains =
            remaining_next M (table_at s at) j (codes_small q) need left from h.remaining k.full r v c first_at
            ce code_below

        -- which looks for a row
        pub had_some : get_or left c 0 ≡ 0 → ⊥
        had_some =
            taken_some M (table_at s at) j (codes_small q) need left from h.remaining k.full r v c first_at
            ce code_below

        -- its cases are taken out
        pub searching_on : Searching s at rows j M need (set left c (bit_xor (get_or left c 0) v)) (r + 1)
        searching_on = record { from_in = omega (arith, row_below); remaining = remains }
