-- `book::tests::Body::bad_code` meets its contract: where there are no rows, no code is too large. Assumes nothing.
use Rattle.std.proofs.Common.{arith}
use Rattle.format.specs.Reading.{code_ok}
use Rattle.format.proofs.Scans.{bad_none}
use Rattle.book.proofs.tests.Body.bad_code.Goals as goal

pub returns-then-end-start : goal.returns-then-end-start
returns-then-end-start c =
    let a = c.args in
    omega (arith, bad_none (code_ok a.self.bytes.now a.self.list a.first a.arity a.start) _ _ c.if-end-start.true, c.if-end-start.true)
