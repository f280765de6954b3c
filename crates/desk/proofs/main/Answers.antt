-- `desk::main` is safe: the text that report wrote stands within the buffer. Assumes nothing.
use Rattle.report.proofs.Printing.{written_counts}
use Rattle.desk.proofs.main.Goals as goal

pub slice_bounds-text-end : goal.slice_bounds-text-end
slice_bounds-text-end c = (written_counts _ _ _ _ _ c.in-Ok.is c.report.ensures).0

pub slice_bounds-write_all-end : goal.slice_bounds-write_all-end
slice_bounds-write_all-end c = (written_counts _ _ _ _ _ c.in-Ok.is c.report.ensures).1
