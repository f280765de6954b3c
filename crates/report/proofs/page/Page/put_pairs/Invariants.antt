-- `report::lists::Page::put_pairs` meets its contract. The loop's invariant: with the lines of the pairs that are left the page is the whole. Assumes nothing.
use mathlib.Core.Path.{◌≡◌}
use mathlib.Core.List.{◌++◌}
use lib.ListN.{drop}
use Rattle.report.specs.Text.{lines_text}
use Rattle.report.specs.Writes.{pair_lines}
use Rattle.report.proofs.page.Page.put_pairs.Given as goal

abbrev pub invariant-loop-field : goal.invariant-loop-field
invariant-loop-field l = l.self ++ lines_text l.word (pair_lines (drop l.field-index l.pairs)) ≡ l.initial.self ++ lines_text l.word (pair_lines l.pairs)
