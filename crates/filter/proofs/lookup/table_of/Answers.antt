-- `table_of` meets its contract: the table that comes behind i others of the walk. Assumes nothing.
use Rattle.filter.proofs.Lookups.{table_there}
use Rattle.filter.proofs.lookup.table_of.Goals as goal

pub returns : goal.returns
returns c =
    let p = table_there c.args.book c.args.i c.tables.ensures.book c.tables.ensures.index _ _ c.nth.ensures.ran c.ok_or.ensures.value in
    record { table = p.0; lacks = p.1 }
