-- `book::tests::Body::bad_code_in_rows` meets its contract: row after row comes off the bytes. Assumes nothing.
use Rattle.std.proofs.Common.{arith}
use Rattle.book.proofs.Columns.{rows_begin, row_fits_list, rows_next, row_bad, rows_end}
use Rattle.book.proofs.tests.Body.bad_code_in_rows.Goals as goal

pub loop-r-init : goal.loop-r-init
loop-r-init c =
    rw (c.into_iter-r-iterator.ensures.into_iter_gives, c.enumerate-r-items.ensures.source, c.enumerate-r-items.ensures.count, c.chunks_exact.ensures.rest, c.chunks_exact.ensures.size)
    (rows_begin c.args.self.bytes.now c.args.self.list c.args.first c.args.arity c.args.start c.args.end c.requires)

pub bad_column-requires : goal.bad_column-requires
bad_column-requires c =
    let st = c.in-Some.ensures.steps in
    row_fits_list c.args.self.bytes.now c.args.self.list c.args.first c.args.arity c.args.start c.args.end c.requires _ _ c.loop-r.invariant st.0.1.0 st.0.1.1

pub returns-in-Some-bad_column : goal.returns-in-Some-bad_column
returns-in-Some-bad_column c =
    let st = c.in-Some.ensures.steps in
    rw (st.1)
    (row_bad c.args.self.bytes.now c.args.self.list c.args.first c.args.arity c.args.start c.args.end c.requires _ _ c.loop-r.invariant st.0.1.0 st.0.1.1
    c.in-Some-bad_column.column c.in-Some-bad_column.ensures)

pub overflow_add-result-in-Some-bad_column : goal.overflow_add-result-in-Some-bad_column
overflow_add-result-in-Some-bad_column c =
    let st = c.in-Some.ensures.steps in
    rw (st.1)
    (omega (
      arith,
      c.ranges.end.fits,
      (row_bad c.args.self.bytes.now c.args.self.list c.args.first c.args.arity c.args.start c.args.end c.requires _ _ c.loop-r.invariant st.0.1.0 st.0.1.1
          c.in-Some-bad_column.column c.in-Some-bad_column.ensures).0,
    ))

pub loop-r-preserved : goal.loop-r-preserved
loop-r-preserved c =
    let st = c.in-Some.ensures.steps in
    rw (st.0.0, st.2)
    (rows_next c.args.self.bytes.now c.args.self.list c.args.first c.args.arity c.args.start c.args.end c.requires _ _ c.loop-r.invariant st.0.1.0 st.0.1.1
    c.in_default.ensures)

pub returns : goal.returns
returns c =
    let st = c.in-None.ensures.steps in
    rows_end c.args.self.bytes.now c.args.self.list c.args.first c.args.arity c.args.start c.args.end c.requires c.loop-r.invariant st.0.1.0
