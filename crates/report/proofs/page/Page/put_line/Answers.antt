use mathlib.Core.Path.{ap}
use native.Mathlib.Omega.{arith}
use lib.ListN.{length, length-append}
use Rattle.report.proofs.Lines.{spaced_more}
use Rattle.report.proofs.page.Page.put_line.Goals as goal

pub put_byte-requires : goal.put_byte-requires
put_byte-requires c =
    let word = simp length-append at (ap length c.put_word.ensures) in
    let all = simp length-append at (ap length c.loop-number.invariant) in
    let next = ap length (spaced_more c.args.numbers.now c.loop-number.number-index c.loop-number-test.true) in
    let room = simp length-append at c.requires in
    omega arith

pub put_number-requires : goal.put_number-requires
put_number-requires c =
    let word = simp length-append at (ap length c.put_word.ensures) in
    let all = simp length-append at (ap length c.loop-number.invariant) in
    let next = simp length-append at (ap length (spaced_more c.args.numbers.now c.loop-number.number-index c.loop-number-test.true)) in
    let on = simp length-append at (ap length c.put_byte.ensures) in
    let room = simp length-append at c.requires in
    omega arith
