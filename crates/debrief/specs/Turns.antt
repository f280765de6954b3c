-- What the two turns of the search rest on. Assumes nothing.
use Rattle.std.specs.Prelude.{ℕ, ◌+◌, ◌-◌, ◌<◌, ◌≡◌, ◌⊎◌, false, List, length, ltb}
use Rattle.format.specs.Basics.{pick, In}
use Rattle.format.specs.Format.{Book}
use Rattle.consistency.specs.Consistency.{answer}
use Rattle.consistency.specs.Largest.{largest}
use Rattle.consistency.specs.Emptiness.{NoneEmpty}
use Rattle.consistency.specs.Plans.{settled}

-- The target and the questions are fields. No question has an answer, or no field is empty: so it is at first, and behind each code that may be given
pub record Asking (b : Book) (t : ℕ) (qs a : List ℕ) : Type 0 where
  pub target_in : t < length b.counts
  pub known : (q : ℕ) → In q qs → q < length b.counts
  pub fresh : ((q : ℕ) → In q qs → answer a q ≡ 255) ⊎ NoneEmpty b (largest b a)

-- and the target is not settled
pub record Choosing (b : Book) (t : ℕ) (qs a : List ℕ) : Type 0 where
  pub asking : Asking b t qs a
  pub unsettled : settled b t a ≡ false

-- the place i behind `from` in a list of n, around its end
abbrev pub around : ℕ → ℕ → ℕ → ℕ
around n from i = pick (ltb i (n - from)) (from + i) (i - (n - from))
