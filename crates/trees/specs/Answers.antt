-- The answers of reading and writing tree books in the papers' terms: number, place and counts for each, with the contents of the memory lent.
-- Assumes nothing.
use Rattle.std.specs.Prelude.{ℕ, List, [], ◌∷◌, Result, Ok, Err}
use Rattle.format.specs.Reading.{Outcome, accepted, refused, Verdict, pass, fail}
use Rattle.format.specs.Writing.{Reply, declined}
use Rattle.book.specs.Shown.{counted}
use Rattle.book.specs.declared.Counts.{Counts}
use Rattle.trees.specs.Numbers.{breach_number, read_number, read_place, write_number}
use Rattle.trees.specs.declared.refusals.Breached.{Breached}
use Rattle.trees.specs.declared.refusals.TreeRefusal.{TreeRefusal}
use Rattle.trees.specs.declared.refusals.TreeWriteRefusal.{TreeWriteRefusal}

-- the tests of the profile
abbrev pub verdict_of : {A : Type 0} → Result A Breached → Verdict
verdict_of (Ok x) = pass
verdict_of (Err breached) = fail (breach_number breached.breach) breached.place

-- reading: what reading counts, or the refusal
abbrev pub tree_read : Result Counts TreeRefusal → Outcome
tree_read (Ok counts) = accepted (counted counts)
tree_read (Err refusal) = refused 4 (read_number refusal) (read_place refusal)

-- writing: how many bytes were written, or the refusal
abbrev pub tree_wrote : Result ℕ TreeWriteRefusal → List ℕ → Reply
tree_wrote (Ok n) o = record { outcome = accepted (n ∷ []); buffer = o }
tree_wrote (Err refusal) o = declined o (write_number refusal) 0
