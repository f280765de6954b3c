use Rattle.std.proofs.Common.{arith}
use Rattle.filter.proofs.Lists.{listed}
use Rattle.filter.proofs.ColumnSearch.{searching_as, searching_done, searching_ends, searching_on, row_below, row_later, code_below, had_some}
use Rattle.filter.proofs.revise.find_rows.Goals as goal

pub returns-in_default : goal.returns-in_default
returns-in_default c = searching_ends c.args.column.table.stands c.args.column.within c.loop-need.invariant c.loop-need.need.counted c.support.ensures c.in_default.is

pub row-requires : goal.row-requires
row-requires c = row_below c.args.column.table.stands c.args.column.within c.loop-need.invariant c.loop-need.need.counted c.support.ensures c.in-Some.is

pub supported-requires-clause-code : goal.supported-requires-clause-code
supported-requires-clause-code c = code_below c.args.column.table.stands c.args.column.within c.loop-need.invariant c.loop-need.need.counted c.support.ensures c.in-Some.is (listed c.args.column.j c.row.ensures.is c.from-c.ensures)

pub supported-requires-clause-looks : goal.supported-requires-clause-looks
supported-requires-clause-looks c = had_some c.args.column.table.stands c.args.column.within c.loop-need.invariant c.loop-need.need.counted c.support.ensures c.in-Some.is (listed c.args.column.j c.row.ensures.is c.from-c.ensures)

pub overflow_add-from : goal.overflow_add-from
overflow_add-from c = omega (arith, row_below c.args.column.table.stands c.args.column.within c.loop-need.invariant c.loop-need.need.counted c.support.ensures c.in-Some.is)

pub loop-need-smaller : goal.loop-need-smaller
loop-need-smaller c = omega (arith, row_below c.args.column.table.stands c.args.column.within c.loop-need.invariant c.loop-need.need.counted c.support.ensures c.in-Some.is, row_later c.args.column.table.stands c.args.column.within c.loop-need.invariant c.loop-need.need.counted c.support.ensures c.in-Some.is)

pub loop-need-preserved : goal.loop-need-preserved
loop-need-preserved c = searching_as c.supported.ensures (searching_on c.args.column.table.stands c.args.column.within c.loop-need.invariant c.loop-need.need.counted c.support.ensures c.in-Some.is (listed c.args.column.j c.row.ensures.is c.from-c.ensures))

pub returns : goal.returns
returns c = searching_done c.args.column.table.stands c.args.column.within c.loop-need.invariant c.loop-need.need.counted c.loop-need-test.false
