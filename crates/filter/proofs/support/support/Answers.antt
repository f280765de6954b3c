use Rattle.std.proofs.Common.{arith, refl, sym, ◌∙◌}
use Rattle.filter.proofs.Lists.{listed}
use Rattle.filter.proofs.Firsts.{first_none}
use Rattle.filter.proofs.Narrowing.{narrowed_none}
use Rattle.book.proofs.TableFields.{field_few}
use Rattle.filter.proofs.Tables.{code_small, columns}
use Rattle.filter.proofs.RowSearch.{own_in, column_and, column_skip, row_unasked, row_given_up, row_passed, search_on, search_ends}
use Rattle.filter.proofs.support.support.Goals.{then-k-j+else-cases-eq0-2, else-k-j}
use Rattle.filter.proofs.support.support.Goals as goal

pub bounds-need-from : goal.bounds-need-from
bounds-need-from c = own_in c.args.column.table.stands _ _ c.rows-test.true c.args.column.within _ (listed c.args.column.j c.row-row.ensures.is c.from.ensures)

pub rows-preserved-then-cases-eq0 : goal.rows-preserved-then-cases-eq0
rows-preserved-then-cases-eq0 c =
    search_on _ _ c.rows.r _ _ refl c.rows.invariant c.rows-test.true
    (row_unasked c.args.column.table.stands _ _ _ _ (listed c.args.column.j c.row-row.ensures.is c.from.ensures) refl c.if-cases-eq0.true)

pub loop-k-init : goal.loop-k-init
loop-k-init c = record { row = refl; some = omega arith; are = narrowed_none _ _ _ _ _ }

pub bounds-fields-k : goal.bounds-fields-k
bounds-fields-k c = omega (arith, columns c.args.column.table.stands c.fields-fields.ensures)

pub bounds-marks-f : goal.bounds-marks-f
bounds-marks-f c =
    let q = c.args.column.table.stands in
    let f = listed c.loop-k.k c.fields-fields.ensures c.from-f.ensures in
    let code = listed c.loop-k.k c.row-row.ensures.is c.from-code.ensures in
    omega (arith, f, field_few q _ c.loop-k-test.true, code, code_small q _ _ c.rows-test.true c.loop-k-test.true)

pub rows-preserved : goal.rows-preserved
rows-preserved c =
    search_on _ _ c.rows.r _ _ c.loop-k.invariant.row c.rows.invariant c.rows-test.true
    (row_given_up c.args.column.table.stands _ _ _ _ (listed c.args.column.j c.row-row.ensures.is c.from.ensures) refl c.loop-k.k c.loop-k-test.true
    (sym (column_and c.args.column.table.stands _ _ _ c.loop-k.k _ _ _ _ c.if-k-j.true c.loop-k.invariant.are (listed c.loop-k.k c.fields-fields.ensures c.from-f.ensures) (listed c.loop-k.k c.row-row.ensures.is c.from-code.ensures))
    ∙ c.if-cases-eq0-2.true))

pub loop-k-preserved : goal.loop-k-preserved
loop-k-preserved c = record {
  row = c.loop-k.invariant.row;
  some = elim c.if-k-j.branch [ then-k-j+else-cases-eq0-2 w ↦ omega (arith, w.if-cases-eq0-2.false) | else-k-j w ↦ omega (arith, c.loop-k.invariant.some) ];
  are = elim c.if-k-j.branch [
    | then-k-j+else-cases-eq0-2 w ↦ w.cases-is ∙ column_and c.args.column.table.stands _ _ _ c.loop-k.k _ _ _ _ w.if-k-j.true c.loop-k.invariant.are (listed c.loop-k.k c.fields-fields.ensures w.from-f.ensures) (listed c.loop-k.k c.row-row.ensures.is w.from-code.ensures)
    | else-k-j w ↦ w.cases-is ∙ column_skip c.args.column.table.stands _ _ _ c.loop-k.k _ _ w.if-k-j.false c.loop-k.invariant.are
  ];
}

pub returns-in-rows : goal.returns-in-rows
returns-in-rows c =
    search_ends _ _ c.rows.r _ _ _ c.loop-k.invariant.row c.rows.invariant c.rows-test.true
    (row_passed c.args.column.table.stands _ _ _ _ (listed c.args.column.j c.row-row.ensures.is c.from.ensures) refl _ c.loop-k.k c.loop-k.invariant.are (omega arith) c.loop-k-test.false)
    c.loop-k.invariant.some

pub returns : goal.returns
returns c = sym (c.rows.invariant ∙ first_none _ _ _ c.rows-test.false)
