-- `book::tests::Body::bad_code_in_rows` meets its contract. The loop's invariant: the codes of the rows so far are right, and the rest is left. Assumes nothing.
use Rattle.std.specs.Slice.Iter.{chunks_exact_rest, chunks_exact_size}
use Rattle.book.proofs.Columns.{RowsRight}
use Rattle.book.proofs.tests.Body.bad_code_in_rows.Given as goal

abbrev pub invariant-loop-r : goal.invariant-loop-r
invariant-loop-r l = RowsRight l.self.bytes.now l.self.list l.first l.arity l.start l.end l.r-iterator.count (chunks_exact_rest l.r-iterator.iter) (chunks_exact_size l.r-iterator.iter)
