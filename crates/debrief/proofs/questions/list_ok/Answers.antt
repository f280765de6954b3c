-- `debrief::questions::list_ok` meets its contract. Assumes nothing.
use mathlib.Core.Path.{◌∙◌}
use Rattle.std.proofs.Common.{rules, tests}
use Rattle.std.proofs.lemmas.Iterator.{YieldsList-from_slice}
use Rattle.std.proofs.lemmas.Iterator.Consumers.{YieldsList-from_enumerate}
use Rattle.std.proofs.lemmas.Iterator.Search.{all_from_yields_List}
use Rattle.format.specs.Format.{book_of}
use Rattle.debrief.proofs.Lists.{passes, short_list, long_list}
use Rattle.debrief.proofs.questions.list_ok.Goals as goal

pub returns-then-questions-le-LIST_LIMIT : goal.returns-then-questions-le-LIST_LIMIT
returns-then-questions-le-LIST_LIMIT c =
    all_from_yields_List (passes (book_of c.args.book.bytes.now) c.args.target c.args.questions.now c.args.answers.now) _ _ _ c.all.ensures.ran
    (YieldsList-from_enumerate (YieldsList-from_slice c.args.questions.now cc) (cc)) (λ x b q k. search (rules, tests))
    ∙ short_list (book_of c.args.book.bytes.now) c.args.target c.args.questions.now c.args.answers.now c.if-questions-le-LIST_LIMIT.true

pub returns-else-questions-le-LIST_LIMIT : goal.returns-else-questions-le-LIST_LIMIT
returns-else-questions-le-LIST_LIMIT c = long_list (book_of c.args.book.bytes.now) c.args.target c.args.questions.now c.args.answers.now c.if-questions-le-LIST_LIMIT.false
