-- `book::tests::Trailer::of` meets its contract: each way through the tests. Assumes nothing.
use Rattle.format.proofs.Refusals.{trailer_1_short, trailer_1_long, trailer_2_closing, trailer_3_version, trailer_4_none, trailer_4_many, trailer_5_tables, trailer_6_place, trailer_pass}
use Rattle.book.proofs.Refusing.{failed}
use native.Mathlib.Omega.{arith}
use Rattle.book.proofs.tests.Trailer.of.Goals as goal
use Rattle.book.proofs.tests.Trailer.of.Goals.{then-n-lt-TRAILER-via-then-n-lt-TRAILER, then-n-lt-TRAILER-via-else-n-lt-TRAILER+then-n-gt-LENGTH_LIMIT, then-fields-lt1-via-then-fields-lt1, then-fields-lt1-via-else-fields-lt1+then-limit-fields}

pub returns-then-n-lt-TRAILER-clause-verdict : goal.returns-then-n-lt-TRAILER-clause-verdict
returns-then-n-lt-TRAILER-clause-verdict c = failed c.at.ensures.kind c.at.ensures.place
    (elim c.then-n-lt-TRAILER.branch [
      | then-n-lt-TRAILER-via-then-n-lt-TRAILER w ↦ trailer_1_short _ _ _ _ _ _ (omega (arith, w.if-n-lt-TRAILER.true))
      | then-n-lt-TRAILER-via-else-n-lt-TRAILER+then-n-gt-LENGTH_LIMIT w ↦ trailer_1_long _ _ _ _ _ _ (omega (arith, w.if-n-lt-TRAILER.false)) (omega (arith, w.if-n-gt-LENGTH_LIMIT.true))
    ])

pub returns-then-book-n-clause-verdict : goal.returns-then-book-n-clause-verdict
returns-then-book-n-clause-verdict c = failed c.at-then-book-n.ensures.kind c.at-then-book-n.ensures.place
    (trailer_2_closing _ _ _ _ _ _ (omega arith) (omega arith) c.if-book-n.true)

pub returns-in_default-clause-verdict : goal.returns-in_default-clause-verdict
returns-in_default-clause-verdict c = failed c.at-in_default.ensures.kind c.at-in_default.ensures.place
    (trailer_3_version _ _ _ _ _ _ (omega arith) (omega arith) (omega arith) (omega arith))

pub returns-then-fields-lt1-clause-verdict : goal.returns-then-fields-lt1-clause-verdict
returns-then-fields-lt1-clause-verdict c = failed c.at-then-fields-lt1.ensures.kind c.at-then-fields-lt1.ensures.place
    (elim c.then-fields-lt1.branch [
      | then-fields-lt1-via-then-fields-lt1 w ↦ trailer_4_none _ _ _ _ _ _ (omega arith) (omega arith) (omega arith) (omega arith) (omega (arith, w.if-fields-lt1.true))
      | then-fields-lt1-via-else-fields-lt1+then-limit-fields w ↦ trailer_4_many _ _ _ _ _ _ (omega arith) (omega arith) (omega arith) (omega arith)
          (omega (arith, w.if-fields-lt1.false)) (omega (arith, w.if-limit-fields.true))
    ])

pub returns-then-tables-gt-TABLE_LIMIT-clause-verdict : goal.returns-then-tables-gt-TABLE_LIMIT-clause-verdict
returns-then-tables-gt-TABLE_LIMIT-clause-verdict c = failed c.at-then-tables-gt-TABLE_LIMIT.ensures.kind c.at-then-tables-gt-TABLE_LIMIT.ensures.place
    (trailer_5_tables _ _ _ _ _ _ (omega arith) (omega arith) (omega arith) (omega arith) (omega arith) (omega arith) (omega arith))

pub returns-then-list-fields-clause-verdict : goal.returns-then-list-fields-clause-verdict
returns-then-list-fields-clause-verdict c = failed c.at-then-list-fields.ensures.kind c.at-then-list-fields.ensures.place
    (trailer_6_place _ _ _ _ _ _ (omega arith) (omega arith) (omega arith) (omega arith) (omega arith) (omega arith) (omega arith)
    (λ e. c.if-list-fields.true (omega arith)))

pub returns-clause-verdict : goal.returns-clause-verdict
returns-clause-verdict c = trailer_pass _ _ _ _ _ _ (omega arith) (omega arith) (omega arith) (omega arith) (omega arith) (omega arith) (omega arith) (omega arith)
