-- `put` meets its contract: 18, or the form. Assumes nothing.
use mathlib.Core.Path.{refl}
use native.Mathlib.Omega.{arith}
use Rattle.consistency.specs.Counts.{answered}
use Rattle.consistency.proofs.Limits.{many_few}
use Rattle.sheet.specs.Shown.{held_by}
use Rattle.short.proofs.WriteTurns.{put_18, put_room, put_done}
use Rattle.short.proofs.entries.put.Goals as goal

pub overflow_mul-end : goal.overflow_mul-end
overflow_mul-end c = omega (arith, c.count_answered-answers.ensures, many_few c.args.fields (answered c.args.sheet.now.answers), c.requires)

pub overflow_add-size : goal.overflow_add-size
overflow_add-size c = omega (arith, c.count_answered-answers.ensures, many_few c.args.fields (answered c.args.sheet.now.answers), c.requires)

pub overflow_cast-answers : goal.overflow_cast-answers
overflow_cast-answers c = omega (arith, c.count_answered-answers.ensures, many_few c.args.fields (answered c.args.sheet.now.answers), c.requires)

pub returns-then-out-size : goal.returns-then-out-size
returns-then-out-size c = put_18 c.args.fields (held_by c.args.sheet.now) c.args.out.now _ _ c.count_answered-answers.ensures refl c.if-out-size.true

pub write_entries-requires : goal.write_entries-requires
write_entries-requires c = record { few = c.requires; fits = put_room c.args.fields (held_by c.args.sheet.now) c.args.out.now _ _ c.count_answered-answers.ensures refl c.if-out-size.false }

pub returns : goal.returns
returns c = put_done c.args.fields (held_by c.args.sheet.now) c.args.out.now _ _ c.count_answered-answers.ensures refl c.if-out-size.false _ _ c.write_entries.ensures c.copy_from_slice.ensures.after
