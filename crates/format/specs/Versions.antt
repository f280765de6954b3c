-- Request M-103, "every version 1 book reads as before", and "Refusal 3 now means neither version". The statement; proofs/Limits.antt has
-- its proof. Assumes nothing.
use Rattle.std.specs.Prelude.{ℕ, ◌≡◌, ◌≢◌, ◌↔◌, List}
use Rattle.format.specs.Format.{field_limit, field_limit1, version_of}
use Rattle.format.specs.Reading.{verdict, reading, verdict_under, reading_under}

-- the verdict, which every call goes by, and what reading answers are those under version 1's limits alone
pub record ReadsAsBefore (s : List ℕ) : Type 0 where
  pub verdicts : verdict s ≡ verdict_under field_limit1 s
  pub answers : reading s ≡ reading_under field_limit1 s

pub record Request103 : Type 0 where
  -- bytes that name version 1, accepted or not: the request's sentence, a case of the next
  pub version_1 : (s : List ℕ) → version_of s ≡ 1 → ReadsAsBefore s
  -- so do all bytes that do not name version 2: only bytes that name it are answered anew
  pub others : (s : List ℕ) → version_of s ≢ 2 → ReadsAsBefore s
  -- a number allows no field, and is refused by 3, exactly when it is neither version
  pub neither : (v : ℕ) → (field_limit v ≡ 0) ↔ ((v ≢ 1) × (v ≢ 2))
