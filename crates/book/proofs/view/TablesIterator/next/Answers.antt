use mathlib.Core.Path.{ap, ap₂, ◌∙◌}
use mathlib.Core.List.{List}
use Prim.Native.Nat.{ℕ}
use Rattle.std.specs.Borrow.{Bor}
use Rattle.format.specs.Format.{table_end}
use Rattle.book.proofs.Walks.{walk_on}
use Rattle.book.proofs.view.TablesIterator.next.Goals as goal

pub invariant_of-self : goal.invariant_of-self
invariant_of-self c =
    let e = c.table-table.ensures in
    let behind = c.end.ensures ∙ ap₂ table_end (ap (λ (b : Bor (List ℕ)). b.now) e.bytes) e.at in
    record { stand = walk_on _ _ _ _ c.args.self.now.stand behind }
