-- What the inner question asks of a table's rows. Assumes nothing.
use Rattle.std.specs.Prelude.{ℕ, zero, suc, ◌+◌, List, Option, Some, None, length, get_or, eqb}
use Rattle.std.specs.Int.Bits.{bit_and}
use Rattle.format.specs.Basics.{pick}
use Rattle.format.specs.Format.{Table}
use Rattle.consistency.specs.Consistency.{field_of, code_of}
use Rattle.filter.specs.Words.{word_at}
use Rattle.filter.specs.declared.support.Found.{Found}

-- the cases of w in which row r has standing codes in the columns below i, column j left out
unfoldable pub narrowed : List ℕ → Table → ℕ → ℕ → ℕ → ℕ → ℕ
narrowed M t j r w zero = w
narrowed M t j r w (suc i) =
    pick (eqb i j) (narrowed M t j r w i) (bit_and (narrowed M t j r w i) (word_at M (field_of t i) (code_of t r i)))

-- the cases asked for in which row r supports its own code in column j: need has the cases of each code
unfoldable pub row_cases : List ℕ → List ℕ → Table → ℕ → ℕ → ℕ
row_cases M need t j r = narrowed M t j r (get_or need (code_of t r j) 0) (length t.fields)

-- row r, which supports its own code in the cases w
abbrev pub found : ℕ → ℕ → Option Found
found r w = Some (record { row = r; cases = w })

-- the first of the m numbers from r on at which g is not 0, with g's value there
unfoldable pub first_from : ℕ → ℕ → (ℕ → ℕ) → Option Found
first_from zero r g = None
first_from (suc m) r g = pick (eqb (g r) 0) (first_from m (r + 1) g) (found r (g r))
