-- `book::view::Table::row` meets its contract: a slice of a list is its part. Assumes nothing.
use mathlib.Core.Path.{ap, ◌∙◌}
use Prim.Native.Nat.{ℕ, ◌+◌, ◌*◌}
use native.Mathlib.Omega.{arith}
use lib.ListN.{take, drop}
use Rattle.book.proofs.TableRows.{view_row, row_ends}
use Rattle.book.proofs.view.Table.row.Goals as goal

pub returns-clause-is : goal.returns-clause-is
returns-clause-is c =
    let t = c.args.self in
    ap (λ (n : ℕ). take n (drop (t.first + c.args.k * t.arity) t.bytes.now)) (omega arith) ∙ view_row t.stands c.args.k c.requires

pub slice_bounds-result-end : goal.slice_bounds-result-end
slice_bounds-result-end c = omega (arith, row_ends c.args.self.stands c.args.k c.requires)
