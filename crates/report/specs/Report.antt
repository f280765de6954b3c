-- What the printed lines say: the open lines are exactly the unanswered fields' codes in the largest arc-consistent subdomain, each once, by
-- field then code, and the total is the number of alt lines. How long a text can be, and what report leaves. Assumes nothing.
use Rattle.std.specs.Prelude.{ℕ, ◌+◌, ◌*◌, ◌≤◌, ◌<◌, ◌≡◌, ◌↔◌, not, List, length, T, Result}
use Rattle.format.specs.Basics.{In}
use Rattle.format.specs.Format.{Book, code_limit}
use Rattle.format.specs.Writing.{Reply, into}
use Rattle.consistency.specs.Consistency.{places, Subdomain, Sheet, IsLargest}
use Rattle.consistency.specs.Counts.{answered, Line, lines, total}
use Rattle.consistency.specs.Order.{InOrder}
use Rattle.book.specs.Lent.{handed}
use Rattle.book.specs.declared.lent.NoRoom.{NoRoom}
use Rattle.report.specs.Text.{open_lines, report_text}

-- "Each open: unanswered field and standing code, by field then code": whatever S is the largest, its codes and no others
pub record ShowsOpen (b : Book) (s : Sheet) (ls : List Line) : Type 0 where
  pub in_order : InOrder ls
  pub exactly : (S : Subdomain) → IsLargest b s.answers S
      → (l : Line) → In l ls ↔ ((l.field < length b.counts) × (T (not (answered s.answers l.field)) × T (S l.field l.code)))

-- so it is of the open lines printed for any book and sheet
abbrev pub OpenLinesAre : Type 0
OpenLinesAre = (b : Book) (s : Sheet) → ShowsOpen b s (open_lines b s.answers)

-- "Sheet: answered fields, total, struck. Each alt: field, code": the total printed is the number of alt lines printed
abbrev pub TotalIsLines : Type 0
TotalIsLines = (b : Book) (s : Sheet) → total b s ≡ length (lines b s)

-- a line such as "book 60 64 4096 4096", one such as "sheet 60 1920 117120", and 1,920 such as "open 59 31", each with its newline
abbrev pub text_limit : ℕ
text_limit = 21 + 21 + 11 * (places * code_limit)

-- no text has more
abbrev pub TextFits : Type 0
TextFits = (bytes form : List ℕ) → length (report_text bytes form) ≤ text_limit

-- the answer of report, with the buffer's contents: the text is handed out
abbrev pub shown : Result ℕ NoRoom → List ℕ → Reply
shown = handed

-- where text_limit bytes are lent, 18 does not happen
abbrev pub ReportSuffices : Type 0
ReportSuffices = (bytes form o : List ℕ) → text_limit ≤ length o → (into (report_text bytes form) o).outcome.number ≡ 0
