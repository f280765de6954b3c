-- `joining::puts::put_rows` meets its contract. The invariant: the rows so far are put. Assumes nothing.
use Rattle.joining.proofs.Laying.{RowsPut}
use Rattle.joining.proofs.puts.put_rows.Given as goal

abbrev pub invariant-loop-word : goal.invariant-loop-word
invariant-loop-word l = RowsPut l.initial.laid l.at l.arity l.words l.laid l.place l.word-index
