-- `joining::puts::put_rows` meets its contract. Assumes nothing.
use Rattle.joining.proofs.Laying.{row_room, rows_on, digits_put}
use native.Mathlib.Omega.{arith}
use Rattle.joining.proofs.puts.put_rows.Goals as goal

pub loop-word-preserved : goal.loop-word-preserved
loop-word-preserved c = rows_on _ _ _ _ _ _ _ _ _ c.loop-word.invariant c.loop-word-test.true c.requires.1 (digits_put _ _ _ _ _ c.put_word.ensures c.requires.1 (omega (arith, row_room _ _ _ _ _ _ _ c.loop-word.invariant c.loop-word-test.true c.requires.0)))
