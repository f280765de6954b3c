-- `nearest::rows::holds` meets its contract. Assumes nothing.
use Rattle.nearest.proofs.TableTurns.{hold_some}
use Rattle.nearest.proofs.rows.holds.Goals as goal

pub returns-in-Some : goal.returns-in-Some
returns-in-Some c =
    hold_some _ _ _ _ _ _ c.args.table.stands _ _ _ c.in-Some.ensures _ _ c.begins.ensures c.requires
