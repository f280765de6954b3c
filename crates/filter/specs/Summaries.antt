-- What the marks of a pass say of each case as a whole. Assumes nothing.
use Rattle.std.specs.Prelude.{ℕ, List, Bool, not, ◌&&◌, ltb}
use Rattle.format.specs.Format.{code_limit}
use Rattle.consistency.specs.Counting.{any_below, how_many}
use Rattle.consistency.specs.Consistency.{places}
use Rattle.consistency.specs.Counts.{mask}
use Rattle.filter.specs.Words.{domain_of}

-- field f has a mark in case k; one that has no place on a sheet has none
abbrev pub marked : List ℕ → ℕ → ℕ → Bool
marked M f k = ltb f places && any_below code_limit (domain_of M k f)

-- in case k some field below n has none, so is empty
abbrev pub emptied : List ℕ → ℕ → ℕ → Bool
emptied M n k = any_below n (λ f. not (marked M f k))

-- these cases as a word of 64 bits; in a case that the marks do not have every field is empty
unfoldable pub empty_cases : List ℕ → ℕ → ℕ
empty_cases M n = mask 64 (emptied M n)

-- field f has more than one mark in case k
abbrev pub crowded : List ℕ → ℕ → ℕ → Bool
crowded M f k = ltb 1 (how_many code_limit (domain_of M k f))
