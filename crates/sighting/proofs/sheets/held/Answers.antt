-- `sheets::held` meets its contract: answers and photographs are the bytes' ones. Assumes nothing.
use mathlib.Core.Path.{ap₂}
use mathlib.Core.Bool.{false, not}
use Prim.Native.Nat.{◌+◌}
use borrow.Author.Rules.{rules}
use lib.Dec.{eqb}
use lib.ListN.{get_or}
use Rattle.consistency.specs.Consistency.{places, sheet_with}
use Rattle.sheet.proofs.Fronts.{from_fn_table}
use Rattle.sighting.proofs.sheets.held.Goals as goal

pub returns : goal.returns
returns c =
    ap₂ sheet_with
    (from_fn_table _ 0 (λ f. get_or c.args.bytes f 0) places c.from_fn.result _ (λ k y q e. (search rules, search rules)) c.from_fn.ensures.items)
    (from_fn_table _ false (λ f. not (eqb (get_or c.args.bytes (places + f) 0) 0)) places c.from_fn-2.result _ (λ k y q e. (search rules, search rules)) c.from_fn-2.ensures.items)
