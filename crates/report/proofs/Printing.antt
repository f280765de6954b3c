-- A text that was written, read where it stands in the buffer, and a buffer with room for any. Assumes nothing.
use mathlib.Core.Path.{◌≡◌, sym, ap, ◌∙◌}
use mathlib.Core.List.{List, ◌++◌}
use Prim.Native.Nat.{ℕ, ◌≤◌}
use native.Mathlib.Omega.{arith}
use lib.ListN.{length, get_or, take, drop, length-append}
use lib.Seq.{take_at}
use lib.Dec.{ltb}
use Rattle.std.specs.Prelude.{Result, Ok}
use Rattle.format.specs.Writing.{Reply, declined, into}
use Rattle.format.proofs.Picks.{pick_second}
use Rattle.format.proofs.Replies.{into_whole}
use Rattle.book.specs.declared.lent.NoRoom.{NoRoom}
use Rattle.report.specs.Text.{report_text}
use Rattle.report.specs.Report.{shown, ReportSuffices}
use Rattle.report.proofs.Sizes.{text_fits}

-- a text that was written stands at the start of the buffer: what a caller that reads it there needs
pub written_counts : (text o o' : List ℕ) (r : Result ℕ NoRoom) (n : ℕ) → r ≡ Ok n → shown r o' ≡ into text o
    → (n ≤ length o') × (n ≡ length (take n o'))
unfolding into
written_counts text o o' r n w h =
    let e : shown (Ok n) o' ≡ into text o = sym (ap (λ (x : Result ℕ NoRoom). shown x o') w) ∙ h in
    let written = (pick_second (ltb (length o) (length text)) (λ (d : declined o 18 0 ≡ shown (Ok n) o'). omega (arith, ap (λ (p : Reply). p.outcome.number) d)) (sym e)).1 in
    let long : length text ≡ n = ap (λ (p : Reply). get_or p.outcome.counts 0 0) written in
    let whole : text ++ drop (length text) o ≡ o' = ap (λ (p : Reply). p.buffer) written in
    let first : take n o' ≡ text = ap (take n) (sym whole) ∙ take_at text (drop (length text) o) n long in
    (omega (arith, ap length whole, length-append text (drop (length text) o)), sym long ∙ ap length (sym first))

-- a buffer with room for any text
pub report_suffices : ReportSuffices
report_suffices bytes form o l =
    ap (λ (r : Reply). r.outcome.number) (into_whole (report_text bytes form) o (omega (arith, text_fits bytes form)))
