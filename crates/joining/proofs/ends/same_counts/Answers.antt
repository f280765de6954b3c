-- `joining::ends::same_counts` meets its contract: `==` of what is read decides. Assumes nothing.
use Rattle.joining.proofs.Ending.{lists_decided}
use Rattle.joining.proofs.ends.same_counts.Goals as goal

pub returns : goal.returns
returns c = lists_decided _ _ _ _ _ c.field_list.ensures c.field_list-2.ensures c.eq.ensures
