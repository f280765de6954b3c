-- `joining::lay::lay_tables` meets its contract. Assumes nothing.
use mathlib.Core.Logic.{inl, inr}
use Rattle.joining.proofs.LayTurns.{fine_both, lay_start, lay_end, more_tables, over_tables, key_in, key_small, over_rows, table_fits, lay_on}
use native.Mathlib.Omega.{arith}
use Rattle.joining.proofs.lay.lay_tables.Goals as goal

pub loop-key-init : goal.loop-key-init
loop-key-init g c = lay_start _ (fine_both c.args.books.now.first.book c.args.books.now.second.book) _ c.requires.room

pub returns-then-tables-eq-TABLE_LIMIT : goal.returns-then-tables-eq-TABLE_LIMIT
returns-then-tables-eq-TABLE_LIMIT g c =
    inl (inl (over_tables _ (fine_both c.args.books.now.first.book c.args.books.now.second.book) _ _ _ _ _ _ c.loop-key.invariant _ c.in-Some.ensures c.if-tables-eq-TABLE_LIMIT.true))

pub common-n-requires : goal.common-n-requires
common-n-requires g c = (omega arith, (omega arith, key_in _ (fine_both c.args.books.now.first.book c.args.books.now.second.book) _ _ _ _ _ _ c.loop-key.invariant _ c.in-Some.ensures))

pub returns-then-rows-n-gt-ROW_LIMIT : goal.returns-then-rows-n-gt-ROW_LIMIT
returns-then-rows-n-gt-ROW_LIMIT g c =
    inl (inr (over_rows _ (fine_both c.args.books.now.first.book c.args.books.now.second.book) _ _ _ _ _ _ c.loop-key.invariant _ c.in-Some.ensures _ _ c.common-n.ensures c.if-rows-n-gt-ROW_LIMIT.true))

pub put_table-end-requires : goal.put_table-end-requires
put_table-end-requires g c =
    rw c.front.ensures
    (table_fits _ (fine_both c.args.books.now.first.book c.args.books.now.second.book) _ _ _ _ _ _ c.loop-key.invariant _ c.in-Some.ensures _ _ c.common-n.ensures
    c.if-tables-eq-TABLE_LIMIT.false c.if-rows-n-gt-ROW_LIMIT.false (omega (arith, c.if-laid-end.false, c.loop-key.invariant.long)))

pub overflow_add-from : goal.overflow_add-from
overflow_add-from g c = omega (arith, key_small _ (fine_both c.args.books.now.first.book c.args.books.now.second.book) _ _ _ _ _ _ c.loop-key.invariant _ c.in-Some.ensures)

pub loop-key-smaller : goal.loop-key-smaller
loop-key-smaller g c = omega (arith, more_tables _ (fine_both c.args.books.now.first.book c.args.books.now.second.book) _ _ _ _ _ _ c.loop-key.invariant _ c.in-Some.ensures)

pub loop-key-preserved : goal.loop-key-preserved
loop-key-preserved g c =
    lay_on _ (fine_both c.args.books.now.first.book c.args.books.now.second.book) _ _ _ _ _ _ c.loop-key.invariant _ c.in-Some.ensures _ _ c.common-n.ensures
    c.if-tables-eq-TABLE_LIMIT.false c.if-rows-n-gt-ROW_LIMIT.false (omega (arith, c.if-laid-end.false, c.loop-key.invariant.long)) _ _ (rw c.front.ensures at c.put_table-end.ensures)

pub returns : goal.returns
returns g c = lay_end _ (fine_both c.args.books.now.first.book c.args.books.now.second.book) _ _ _ _ _ _ c.loop-key.invariant (rw c.in_default.is at c.next_key.ensures)
