-- What a scan answers: a place, or none. Assumes nothing.
use Rattle.std.specs.Prelude.{ℕ, ◌+◌, ◌≤◌, ◌<◌, ◌≡◌, List, get_or, Bool, ltb, MatchOption}
use Rattle.std.specs.declared.option.Option.{Option}
use Rattle.format.specs.Basics.{first_bad}
use Rattle.format.specs.Format.{byte}

-- the first place from start on and before end at which ok fails, or none
abbrev pub FirstBad : (ℕ → Bool) → ℕ → ℕ → Option ℕ → Type 0
FirstBad ok start end found = MatchOption found (end ≤ first_bad ok start end) (λ i. (i < end) × (i ≡ first_bad ok start end))

-- the code in column j of a row is one of the codes of the field there
abbrev pub column_ok : List ℕ → ℕ → List ℕ → List ℕ → ℕ → Bool
column_ok s list fields row j = ltb (get_or row j 0) (byte s (list + get_or fields j 0))
