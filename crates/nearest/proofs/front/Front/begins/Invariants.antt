-- `nearest::front::Front::begins` meets its contract. The invariant: a word that begins so was found or is among those left, exactly if there
-- is one. Assumes nothing.
use mathlib.Core.Path.{◌≡◌}
use mathlib.Core.Bool.{◌||◌}
use lib.ListN.{drop}
use Rattle.nearest.proofs.WordTurns.{one_begins}
use Rattle.nearest.proofs.front.Front.begins.Given as goal

abbrev pub invariant-loop-row : goal.invariant-loop-row
invariant-loop-row l =
    (l.found || one_begins l.fn.self.width l.fn.self.word (drop l.row-index l.rows)) ≡ one_begins l.fn.self.width l.fn.self.word l.rows
