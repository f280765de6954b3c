-- `joining::puts::put_table` meets its contract. Assumes nothing.
use borrow.Author.Rules.{rules}
use Rattle.joining.proofs.Laying.{table_put}
use Rattle.joining.proofs.puts.put_table.Goals as goal

pub returns : goal.returns
returns c = table_put _ _ _ _ _ (c.requires) c.key_arity-arity.ensures _ _ _ _ _ (search rules) (search rules) c.put_word.ensures c.put_rows.ensures
