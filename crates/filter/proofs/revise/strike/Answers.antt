use Rattle.std.proofs.Common.{◌<◌, ◌^◌, arith, get_or}
use Rattle.filter.proofs.Strikes.{count_next, struck_next}
use Rattle.filter.proofs.Bits.{ones_many}
use Rattle.filter.proofs.revise.strike.Goals as goal

pub loop-c-preserved : goal.loop-c-preserved
loop-c-preserved c =
    let small : get_or c.args.left.now c.loop-c.c 0 < 2 ^ 64 = omega arith in
    let many = ones_many 64 (get_or c.args.left.now c.loop-c.c 0) small in
    record {
      few = count_next c.loop-c.c _ (get_or c.args.left.now c.loop-c.c 0) _ c.loop-c.invariant.few many;
      struck = struck_next c.loop-c.c c.told-marks c.args.field.place (omega (arith, c.args.field.few)) c.loop-c.invariant.struck small many;
    }
