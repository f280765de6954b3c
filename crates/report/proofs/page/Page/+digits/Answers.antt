-- `report::page::Page::put_number` and `put_front` meet their contracts. A number's front is its tenth: the measure is the number, and a front stands
-- above the same number. Assumes nothing.
use mathlib.Core.Path.{ap}
use mathlib.Core.List.{append_assoc}
use native.Mathlib.Omega.{arith}
use lib.ListN.{length, length-append}
use Rattle.report.proofs.Digits.{decimal_one, decimal_more}
use Rattle.report.proofs.page.Page.+digits.Goals as goal

pub put_number-put_byte-requires : goal.put_number-put_byte-requires
put_number-put_byte-requires t c = omega (arith, ap length (decimal_one c.args.n c.if-n-lt10.true))

pub put_number-put_front-requires : goal.put_number-put_front-requires
put_number-put_front-requires t c =
    let more = simp length-append at (ap length (decimal_more c.args.n c.if-n-lt10.false (omega arith))) in
    (omega arith, omega arith)

pub put_number-put_byte-requires-else-n-lt10 : goal.put_number-put_byte-requires-else-n-lt10
put_number-put_byte-requires-else-n-lt10 t c =
    let more = simp length-append at (ap length (decimal_more c.args.n c.if-n-lt10.false (omega arith))) in
    let on = simp length-append at (ap length c.put_front.ensures) in
    omega arith

pub put_number-returns-then-n-lt10 : goal.put_number-returns-then-n-lt10
put_number-returns-then-n-lt10 t c = rw (decimal_one c.args.n c.if-n-lt10.true) c.put_byte.ensures

pub put_number-returns-else-n-lt10 : goal.put_number-returns-else-n-lt10
put_number-returns-else-n-lt10 t c =
    rw (decimal_more c.args.n c.if-n-lt10.false (omega arith), c.put_byte-else-n-lt10.ensures, c.put_front.ensures, append_assoc)
