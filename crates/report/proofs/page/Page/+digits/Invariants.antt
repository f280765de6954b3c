use Prim.Native.Nat.{◌*◌, ◌+◌}
use Rattle.report.proofs.page.Page.+digits.Given as goal

abbrev pub decreases-put_number : goal.decreases-put_number
decreases-put_number l = 2 * l.n

abbrev pub decreases-put_front : goal.decreases-put_front
decreases-put_front l = 2 * l.n + 1
