-- `book::view::Table::count_in` meets its contract. Assumes nothing.
use Rattle.std.proofs.Common.{◌∙◌, arith, rules}
use Rattle.std.specs.Fn.{FnOnceReturnsAtMut}
use Rattle.book.proofs.Gathered.{lent_counted}
use Rattle.book.proofs.TableRows.{rows_fit, view_words}
use Rattle.book.proofs.view.Table.count_in.Goals as goal

pub returns : goal.returns
returns g c =
    let t = c.args.self.now in
    let met : FnOnceReturnsAtMut g.F.FnOnce c.args.counted c.gather.new.list c.counted.result c.counted.new.arg2 = search rules in
    lent_counted t.bytes.now (FnOnceReturnsAtMut g.F.FnOnce c.args.counted) _ _ _ _ _ _ _ (rows_fit t.stands) (omega arith) (c.gather.ensures ∙ view_words t.stands) c.requires.counts met
