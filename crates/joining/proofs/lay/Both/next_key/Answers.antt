-- `joining::lay::Both::next_key` meets its contract. Assumes nothing.
use Rattle.joining.proofs.LayTurns.{least_of_both}
use Rattle.joining.proofs.lay.Both.next_key.Goals as goal

pub returns : goal.returns
returns g c = least_of_both _ _ _ _ _ _ c.least_key-one.ensures c.least_key-other.ensures c.lesser.ensures
