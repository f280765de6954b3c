-- `book::view::Table::count_different` meets its contract. Assumes nothing.
use Rattle.std.proofs.Common.{◌≤◌, length, arith, rules}
use Rattle.format.specs.Format.{row_limit}
use Rattle.book.specs.Listed.{words_in}
use Rattle.book.proofs.Gathered.{words_long, different_risen}
use Rattle.book.proofs.TableRows.{rows_fit, rows_few}
use Rattle.book.proofs.view.Table.count_different.Goals as goal

pub returns-in-Some : goal.returns-in-Some
returns-in-Some c = let t = c.args.self.now in different_risen t.bytes.now _ _ _ (rows_fit t.stands) _ c.in-Some.ensures

pub count_in-requires-in-None-2-clause-counts : goal.count_in-requires-in-None-2-clause-counts
count_in-requires-in-None-2-clause-counts c =
    let t = c.args.self.now in
    let few : length (words_in t) ≤ row_limit = omega (arith, rows_few t.stands, words_long t.bytes.now t.arity t.first t.rows) in
    λ found left h. search rules

pub count_in-requires-in-None-2-clause-room : goal.count_in-requires-in-None-2-clause-room
count_in-requires-in-None-2-clause-room c = (omega (arith, rows_few c.args.self.now.stands), omega arith)
