-- `filter::queue::first_tables` meets its contract. Assumes nothing.
use Rattle.filter.proofs.Surveys.{all_ones}
use Rattle.filter.proofs.queue.first_tables.Goals as goal

pub returns : goal.returns
returns c = all_ones _ c.requires
