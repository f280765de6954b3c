-- `lookup::first_support` meets its contract: the question asked for one code in case 0, from row 0. Assumes nothing.
use Rattle.filter.proofs.Lookups.{row_answer}
use Rattle.filter.proofs.lookup.first_support.Goals as goal

pub returns-in_err-found : goal.returns-in_err-found
returns-in_err-found c = rw c.from_residual.ensures (row_answer c.args.column.table.stands c.args.marks.now c.args.column.j c.requires c.in_err-found.ensures)

pub returns : goal.returns
returns c = row_answer c.args.column.table.stands c.args.marks.now c.args.column.j c.requires c.in_ok-found.ensures
