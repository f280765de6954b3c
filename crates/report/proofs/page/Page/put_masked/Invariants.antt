-- `report::lists::Page::put_masked` meets its contract. The loop's invariant: with the lines of the codes that are left the page is the whole.
-- Assumes nothing.
use mathlib.Core.Path.{◌≡◌}
use mathlib.Core.List.{◌++◌}
use Rattle.sheet.specs.Lists.{codes_of, lines_for}
use Rattle.report.specs.Text.{lines_text}
use Rattle.report.proofs.page.Page.put_masked.Given as goal

abbrev pub invariant-loop-code : goal.invariant-loop-code
invariant-loop-code l =
    l.self ++ lines_text l.word (lines_for l.field (codes_of l.code-iterator.left)) ≡ l.initial.self ++ lines_text l.word (lines_for l.field (codes_of l.mask))
