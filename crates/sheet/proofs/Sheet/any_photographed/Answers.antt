-- `any_photographed` meets its contract. Assumes nothing.
use mathlib.Core.Path.{◌∙◌}
use native.Mathlib.Omega.{arith}
use Rattle.sheet.proofs.Taken.{any_taken}
use Rattle.sheet.proofs.Sheet.any_photographed.Goals as goal

pub returns : goal.returns
returns c = c.contains.ensures.value ∙ any_taken c.args.self.now.photographed c.args.fields (omega arith)
