-- `write_alternatives` meets its contract: each way through its tests. Assumes nothing.
use Rattle.std.proofs.lemmas.Result.{err_from_is_err_and}
use Rattle.sheet.proofs.Openings.{is_open}
use Rattle.sheet.proofs.Openings.{fields_at}
use Rattle.sheet.proofs.MaskLines.{total_shown, lines_shown}
use Rattle.sheet.proofs.OwnCases.{passed}
use Rattle.sheet.proofs.ListCases.{alternatives_turned, alternatives_18, alternatives_done}
use Rattle.sheet.specs.Shown.{held_by}
use Rattle.sheet.proofs.Sheet.write_alternatives.Goals as goal

pub returns-in_err-book : goal.returns-in_err-book
returns-in_err-book c = let p = err_from_is_err_and c.from_residual.result c.from_residual.ensures.1 in
    rw (p.1, p.2) (alternatives_turned _ _ _ _ _ c.in_err-book.ensures.answer)

-- What the pass left is what listing asks for: the marks are of this sheet,
-- and `empty` has those of their cases in which some field is empty.
pub list-requires-clause-passed : goal.list-requires-clause-passed
list-requires-clause-passed c = passed _ _ _ _ _ _ (fields_at c.in_ok-book.book.viewed) c.one_pass-struck.ensures.marks c.empty_cases-empty.ensures

pub returns-then-out-total : goal.returns-then-out-total
returns-then-out-total c = let o = is_open c.in_ok-book.book c.in_ok-book.ensures.answer c.in_ok-book.ensures.bytes in
    alternatives_18 _ _ _ o (total_shown (held_by c.args.self.now) (fields_at c.in_ok-book.book.viewed) c.list.ensures c.total-total.ensures.0) c.if-out-total.true

pub returns : goal.returns
returns c = let o = is_open c.in_ok-book.book c.in_ok-book.ensures.answer c.in_ok-book.ensures.bytes in
    let at = fields_at c.in_ok-book.book.viewed in
    let e = c.list.ensures in
    alternatives_done _ _ _ o (total_shown (held_by c.args.self.now) at e c.total-total.ensures.0) c.if-out-total.false c.one_pass-struck.ensures.count (lines_shown (held_by c.args.self.now) at e c.args.out.now c.write_lines.ensures)
