use Rattle.std.proofs.Common.{arith}
use borrow.Author.Tests.{ltb-true, ltb-false}
use Rattle.trees.proofs.Turns.{scan_start, scan_end, has_label, scan_other, scan_found, scan_two}
use Rattle.trees.proofs.rings.first_closing.Goals as goal

pub loop-table-init : goal.loop-table-init
loop-table-init c =
    rw c.into_iter-table-iterator.ensures.into_iter_gives
    (scan_start c.tables-table-items.ensures.book c.tables-table-items.ensures.index c.own_labels-labels.ensures)

pub loop-table-preserved-then-fields-lt2 : goal.loop-table-preserved-then-fields-lt2
loop-table-preserved-then-fields-lt2 c =
    scan_other c.loop-table.invariant c.next.new.self c.in-Some.table c.in-Some.ensures.steps _ c.fields.ensures (omega (arith, ltb-true))

pub bounds-labels-from : goal.bounds-labels-from
bounds-labels-from c =
    let h = has_label c.loop-table.invariant c.next.new.self c.in-Some.table c.in-Some.ensures.steps _ c.fields.ensures 0 (omega arith) in omega arith

pub bounds-labels-from-in-len2 : goal.bounds-labels-from-in-len2
bounds-labels-from-in-len2 c =
    let h = has_label c.loop-table.invariant c.next.new.self c.in-Some.table c.in-Some.ensures.steps _ c.fields.ensures 1 (omega arith) in omega arith

pub returns-then-new-old : goal.returns-then-new-old
returns-then-new-old c =
    scan_found c.loop-table.invariant c.next.new.self c.in-Some.table c.in-Some.ensures.steps _ c.fields.ensures (omega arith)
    (rw (c.from.ensures, c.from-in-len2.ensures) at c.if-new-old.true)

pub loop-table-preserved-then-this-lt3 : goal.loop-table-preserved-then-this-lt3
loop-table-preserved-then-this-lt3 c =
    let next = scan_two c.loop-table.invariant c.next.new.self c.in-Some.table c.in-Some.ensures.steps _ c.fields.ensures (omega arith)
    (rw (c.from.ensures, c.from-in-len2.ensures) at c.if-new-old.false) in
    rw c.rename.ensures (rw (← c.from.ensures, ← c.from-in-len2.ensures) at next)

pub loop-table-preserved : goal.loop-table-preserved
loop-table-preserved c =
    scan_other c.loop-table.invariant c.next.new.self c.in-Some.table c.in-Some.ensures.steps _ c.fields.ensures (omega (arith, ltb-false))

pub returns : goal.returns
returns c = scan_end c.loop-table.invariant c.next.new.self c.in-None.ensures.steps
