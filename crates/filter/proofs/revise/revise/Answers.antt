-- `revise` meets its contract: what no row supports is struck. Assumes nothing.
use Rattle.filter.proofs.Revisions.{revised}
use Rattle.filter.proofs.revise.revise.Goals as goal

pub returns : goal.returns
returns c =
    revised c.args.column.table.stands c.args.column.within c.requires.field c.requires.codes c.args.field.few c.requires.marks c.looking-need.ensures
    c.find_rows.ensures c.strike.ensures
