-- `report::page::Page::put_line` meets its contract. The loop's invariant: with the numbers that are left the page is the whole line. Assumes nothing.
use mathlib.Core.Path.{◌≡◌}
use mathlib.Core.List.{◌++◌}
use lib.ListN.{drop}
use Rattle.report.specs.Text.{spaced}
use Rattle.report.proofs.page.Page.put_line.Given as goal

abbrev pub invariant-loop-number : goal.invariant-loop-number
invariant-loop-number l = l.self ++ spaced (drop l.number-index l.numbers) ≡ l.initial.self ++ spaced l.numbers
