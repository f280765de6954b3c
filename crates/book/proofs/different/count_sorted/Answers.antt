-- `book::different::count_sorted` meets its contract. Assumes nothing.
use Rattle.std.proofs.Common.{◌∙◌, arith}
use Rattle.words.proofs.Distinct.{sorted_runs}
use Rattle.book.proofs.different.count_sorted.Goals as goal

pub returns : goal.returns
returns c = λ few. (c.count_runs.ensures.0 ∙ sorted_runs 4096 _ _ few c.sort.ensures, omega (arith, c.count_runs.ensures.1, c.sort.ensures.long))
