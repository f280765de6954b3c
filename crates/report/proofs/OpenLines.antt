-- The open lines: exactly the codes of unanswered fields in the largest subdomain, by field then code. The total is the number of alt lines.
-- Assumes nothing.
use mathlib.Core.Path.{◌≡◌, sym, subst}
use mathlib.Core.Logic.{◌↔◌}
use mathlib.Core.Bool.{Bool, not}
use mathlib.Core.List.{List}
use Prim.Native.Nat.{ℕ, ◌<◌}
use lib.ListN.{length}
use lib.Dec.{T}
use Rattle.format.specs.Basics.{In}
use Rattle.format.specs.Format.{Book}
use Rattle.consistency.specs.Consistency.{Subdomain, IsLargest}
use Rattle.consistency.specs.Largest.{largest}
use Rattle.consistency.specs.Counts.{answered, Line}
use Rattle.consistency.proofs.Members.{in_those, those_in}
use Rattle.consistency.proofs.Lines.{picked_in_order, picked_are, length_lines}
use Rattle.consistency.proofs.Largest.{largest_is, largest_unique}
use Rattle.report.specs.Text.{open_lines}
use Rattle.report.specs.Report.{OpenLinesAre, TotalIsLines}

module _ (b : Book) (a : List ℕ) where
  -- field f has no answer
  abbrev unanswered : ℕ → Bool
  unanswered f = not (answered a f)

  -- a line is there exactly when its field has no answer and the largest subdomain has its code
  pub open_are : (S : Subdomain) → IsLargest b a S
      → (l : Line) → In l (open_lines b a) ↔ ((l.field < length b.counts) × (T (unanswered l.field) × T (S l.field l.code)))
  unfolding open_lines
  open_are S h l =
      let n : ℕ = length b.counts in
      let e : largest b a l.field l.code ≡ S l.field l.code = largest_unique (largest_is b a) h l.field l.code in
      let k = picked_are b unanswered (largest b a) (largest_is b a).fits.of_book l in (
        λ m. let r = k.0 m in let f = in_those n unanswered r.0 in (f.0, (f.1, subst T e r.1)),
        λ r. k.1 (those_in n unanswered r.0 r.1.0, subst T (sym e) r.1.1),
      )

pub open_lines_are : OpenLinesAre
unfolding open_lines
open_lines_are b s =
    let a : List ℕ = s.answers in
    record { in_order = picked_in_order b (unanswered b a) (largest b a); exactly = open_are b a }

pub total_is_lines : TotalIsLines
total_is_lines b s = sym (length_lines b s)
