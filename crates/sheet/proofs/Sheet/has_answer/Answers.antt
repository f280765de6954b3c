-- `has_answer` meets its contract: each way through its tests. Assumes nothing.
use native.Mathlib.Omega.{arith}
use borrow.Author.Rules.{rules}
use Rattle.sheet.specs.Shown.{held_by}
use Rattle.sheet.proofs.Openings.{fields_at, fields_few}
use Rattle.sheet.proofs.Tests.{answer_15, answer_17, answer_ok}
use Rattle.sheet.proofs.Sheet.has_answer.Goals as goal

pub returns-then-book-field : goal.returns-then-book-field
returns-then-book-field c = record { verdict = answer_15 (fields_at c.args.book.viewed) (held_by c.args.self.now) _ c.if-book-field.true; field = tt }

pub returns-then-self-field : goal.returns-then-self-field
returns-then-self-field c =
    record { verdict = answer_17 (fields_at c.args.book.viewed) (held_by c.args.self.now) _ (search rules) c.if-book-field.false c.if-self-field.true; field = tt }

pub returns : goal.returns
returns c =
    record {
      verdict = answer_ok (fields_at c.args.book.viewed) (held_by c.args.self.now) _ (search rules) c.if-book-field.false c.if-self-field.false;
      field = omega (arith, c.if-book-field.false, fields_few _ _ _ (fields_at c.args.book.viewed));
    }
