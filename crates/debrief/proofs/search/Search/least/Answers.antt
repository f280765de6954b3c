use mathlib.Core.Path.{sym, ◌∙◌}
use Prim.Native.Nat.{◌+◌}
use native.Mathlib.Numerals.{add-one}
use native.Mathlib.Omega.{arith}
use Rattle.format.specs.Format.{book_of}
use Rattle.format.proofs.Booleans.{true_T}
use Rattle.book.proofs.FieldList.{list_long}
use Rattle.debrief.proofs.Turns.{least_found, least_zero, zero_short, least_missed}
use Rattle.debrief.proofs.search.Search.least.Goals as goal

pub settled-requires : goal.settled-requires
settled-requires c = omega (arith, c.requires.target_in, list_long c.args.start.now.survey.now.book)

pub returns-then-settled : goal.returns-then-settled
returns-then-settled c =
    least_zero (book_of c.args.start.now.survey.now.book.bytes.now) c.args.self.now.target c.args.self.now.questions.now c.args.start.now.answers
    (sym c.settled.ensures ∙ c.if-settled.true)

pub loop-behind-init : goal.loop-behind-init
loop-behind-init c =
    zero_short (book_of c.args.start.now.survey.now.book.bytes.now) c.args.self.now.target c.args.self.now.questions.now c.args.start.now.answers
    (sym c.settled.ensures ∙ c.if-settled.false)

pub returns-then-is_some : goal.returns-then-is_some
returns-then-is_some c =
    least_found (book_of c.args.start.now.survey.now.book.bytes.now) c.args.self.now.target c.args.self.now.questions.now c.args.start.now.answers
    (c.loop-behind.behind + 1) (omega arith) (rw add-one (true_T (sym c.chooser.ensures.answer ∙ sym c.is_some.ensures ∙ c.if-is_some.true))) c.loop-behind.invariant

pub returns : goal.returns
returns c =
    least_missed (book_of c.args.start.now.survey.now.book.bytes.now) c.args.self.now.target c.args.self.now.questions.now c.args.start.now.answers
    (c.loop-behind.behind + 1) (omega arith) c.loop-behind.invariant
