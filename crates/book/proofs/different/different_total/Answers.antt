use mathlib.Core.Path.{ap}
use native.Mathlib.Omega.{arith}
use Rattle.format.specs.Format.{different_total}
use Rattle.book.proofs.TableRows.{rows_few, total_on}
use Rattle.book.proofs.WalkSteps.{stepped, walked, none_left}
use Rattle.book.proofs.different.different_total.Goals as goal

pub loop-table-preserved : goal.loop-table-preserved
loop-table-preserved c =
    let w = c.loop-table.invariant in
    let s = stepped c.args.book c.loop-table.table-iterator c.next.new.self w.0 c.in-Some.table c.in-Some.ensures.steps in
    let few = rows_few s.table_in in
    (s.book, omega (arith, w.1, few, c.count_different-total.ensures.1, s.next), total_on _ s c.count_different-total.ensures.0 w.2)

pub returns : goal.returns
returns c =
    let w = c.loop-table.invariant in
    omega (arith, w.2, ap different_total (none_left c.args.book.bytes.now _ (walked c.args.book c.loop-table.table-iterator c.next.new.self w.0 c.in-None.ensures.steps)))
