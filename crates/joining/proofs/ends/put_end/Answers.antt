-- `joining::ends::put_end` meets its contract. Assumes nothing.
use Rattle.joining.proofs.Ending.{list_fits, trailer_fits}
use Rattle.joining.proofs.ends.put_end.Goals as goal

pub put_bytes-at-requires : goal.put_bytes-at-requires
put_bytes-at-requires c = rw c.field_list.ensures (list_fits c.args.book _ _ _ (c.requires))

pub put_bytes-requires : goal.put_bytes-requires
put_bytes-requires c = rw c.trailer-trailer.ensures (trailer_fits c.args.book _ _ _ _ _ (c.requires) (rw c.field_list.ensures at c.put_bytes-at.ensures))
