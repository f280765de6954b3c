-- The end of a loop that removes unsupported codes: what holds every subdomain that fits, and is itself one, is the largest. Assumes nothing.
use mathlib.Core.Path.{◌≡◌}
use mathlib.Core.List.{List}
use Prim.Native.Nat.{ℕ}
use Rattle.format.specs.Format.{Book}
use Rattle.consistency.specs.Consistency.{Subdomain, ArcConsistent, OfBook, WithinAnswers, HoldsAll}
use Rattle.consistency.specs.Largest.{largest}
use Rattle.consistency.proofs.Largest.{largest_is, largest_unique}

pub loop_ends : (b : Book) (a : List ℕ) (S : Subdomain) → HoldsAll b a S → OfBook b S → ArcConsistent b S → WithinAnswers a S
    → (f c : ℕ) → S f c ≡ largest b a f c
loop_ends b a S h o k w =
    largest_unique (record { fits = record { of_book = o; consistent = k; within = w }; has_all = h }) (largest_is b a)
