-- `book::tests::Body::rows` meets its contract: each way through the tests. Assumes nothing.
use mathlib.Core.Path.{refl}
use Rattle.format.proofs.Refusals.{rows_8_short, rows_12_many, rows_11_code, rows_next}
use Rattle.book.proofs.Refusing.{stopped}
use Rattle.book.proofs.tests.Body.rows.Goals as goal

pub returns-then-self-end : goal.returns-then-self-end
returns-then-self-end c = stopped c.at.ensures.kind c.at.ensures.place
    (rows_8_short c.args.self.bytes.now _ _ _ _ _ c.byte-arity.ensures.0 c.pair-count.ensures.0 c.if-self-end.true)

pub returns-then-rows-gt-ROW_LIMIT : goal.returns-then-rows-gt-ROW_LIMIT
returns-then-rows-gt-ROW_LIMIT c = stopped c.at-then-rows-gt-ROW_LIMIT.ensures.kind c.at-then-rows-gt-ROW_LIMIT.ensures.place
    (rows_12_many c.args.self.bytes.now _ _ _ _ _ c.byte-arity.ensures.0 c.pair-count.ensures.0 c.if-self-end.false c.if-rows-gt-ROW_LIMIT.true)

pub returns-in-Some : goal.returns-in-Some
returns-in-Some c = stopped c.at-in-Some.ensures.kind c.at-in-Some.ensures.place
    (rows_11_code c.args.self.bytes.now _ _ _ _ _ c.byte-arity.ensures.0 c.pair-count.ensures.0 c.if-self-end.false c.if-rows-gt-ROW_LIMIT.false _
    c.in-Some.ensures.1 c.in-Some.ensures.0)

pub returns : goal.returns
returns c = rows_next c.args.self.bytes.now _ _ _ _ _ c.byte-arity.ensures.0 c.pair-count.ensures.0 c.if-self-end.false c.if-rows-gt-ROW_LIMIT.false _
    refl c.in_default.ensures
