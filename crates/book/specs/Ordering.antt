-- What is said of the order of a table's rows, by their words, and of counting them. Assumes nothing.
use Rattle.std.specs.Prelude.{ℕ, ◌≤◌, ◌≡◌, List, length, MatchOption}
use Rattle.std.specs.declared.option.Option.{Option}
use Rattle.words.specs.Sorting.{NeverFalls, distinct, runs}

-- the words never fall, and have so many runs; or they fall somewhere
abbrev pub OrderOf : Option ℕ → List ℕ → Type 0
OrderOf order words = MatchOption order (NeverFalls (length words) words → ⊥) (λ found. NeverFalls (length words) words × (found ≡ runs words) × (found ≤ length words))

-- a call that is lent the words, and may leave others there, returns how many different ones there are
abbrev pub CountsDistinct : (List ℕ → ℕ → List ℕ → Type 0) → List ℕ → Type 0
CountsDistinct returns words = (found : ℕ) (left : List ℕ) → returns words found left → (found ≡ distinct words) × (found ≤ length words)
