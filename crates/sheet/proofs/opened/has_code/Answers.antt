-- `has_code` meets its contract: each way through its tests. Assumes nothing.
use mathlib.Core.Path.{◌∙◌}
use native.Mathlib.Omega.{arith}
use Rattle.sheet.proofs.Openings.{fields_at, fields_few}
use Rattle.sheet.proofs.Tests.{code_15, code_16, code_ok}
use Rattle.sheet.proofs.opened.has_code.Goals as goal

pub returns-then-book-field : goal.returns-then-book-field
returns-then-book-field c = record { verdict = code_15 (fields_at c.args.book.viewed) _ _ c.if-book-field.true; field = tt; code = tt }

pub returns-then-from-code : goal.returns-then-from-code
returns-then-from-code c =
    record { verdict = code_16 (fields_at c.args.book.viewed) _ _ c.if-book-field.false (c.from.ensures ∙ c.codes.ensures.is) c.if-from-code.true; field = tt; code = tt }

pub returns : goal.returns
returns c =
    record {
      verdict = code_ok (fields_at c.args.book.viewed) _ _ c.if-book-field.false (c.from.ensures ∙ c.codes.ensures.is) c.if-from-code.false;
      field = omega (arith, c.if-book-field.false, fields_few _ _ _ (fields_at c.args.book.viewed));
      code = omega arith;
    }
