-- `count_answered` meets its contract: the answers other than 255 are counted. Assumes nothing.
use mathlib.Core.Path.{◌≡◌, ◌∙◌}
use mathlib.Core.Bool.{not}
use native.Mathlib.Omega.{arith}
use lib.Dec.{eqb}
use lib.ListN.{take}
use borrow.Author.Rules.{rules}
use Rattle.std.specs.List.{count_by}
use Rattle.sheet.proofs.Taken.{count_taken}
use Rattle.sheet.proofs.Sheet.count_answered.Goals as goal

pub returns : goal.returns
returns c =
    let n : c.count.result ≡ count_by (λ x. not (eqb x 255)) (take c.args.fields c.args.self.now.answers) = search rules in
    n ∙ count_taken c.args.self.now.answers c.args.fields (omega arith)
