-- `write_filtered` meets its contract: each way through its tests. Assumes nothing.
use Rattle.std.proofs.lemmas.Result.{err_from_is_err_and}
use Rattle.sheet.proofs.Openings.{is_open}
use Rattle.sheet.proofs.ListCases.{filtered_turned, filtered_none, filtered_stop, filtered_relaxed}
use Rattle.sheet.specs.Shown.{held_by}
use Rattle.sheet.proofs.Sheet.write_filtered.Goals as goal

pub returns-in_err-book : goal.returns-in_err-book
returns-in_err-book c = let p = err_from_is_err_and c.from_residual.result c.from_residual.ensures.1 in
    rw (p.1, p.2) (filtered_turned _ _ _ _ _ _ c.in_err-book.ensures.answer)

pub returns-then-relaxed-eq-NONE_RELAXED : goal.returns-then-relaxed-eq-NONE_RELAXED
returns-then-relaxed-eq-NONE_RELAXED c = let o = is_open c.in_ok-book.book c.in_ok-book.ensures.answer c.in_ok-book.ensures.bytes in
    filtered_none _ _ _ _ o c.if-relaxed-eq-NONE_RELAXED.true (c.write_masks.ensures (held_by c.args.self.now))

pub returns-in_err-has_answer : goal.returns-in_err-has_answer
returns-in_err-has_answer c = let o = is_open c.in_ok-book.book c.in_ok-book.ensures.answer c.in_ok-book.ensures.bytes in
    let p = err_from_is_err_and c.from_residual-in_err-has_answer.result c.from_residual-in_err-has_answer.ensures.1 in
    rw (p.1, p.2) (filtered_stop _ _ _ _ o c.if-relaxed-eq-NONE_RELAXED.false _ _ c.in_err-has_answer.ensures.verdict)

pub returns : goal.returns
returns c = let o = is_open c.in_ok-book.book c.in_ok-book.ensures.answer c.in_ok-book.ensures.bytes in
    filtered_relaxed _ _ _ _ o c.if-relaxed-eq-NONE_RELAXED.false c.in_ok-has_answer.ensures.verdict (c.write_masks-2.ensures (held_by c.args.self.now))
