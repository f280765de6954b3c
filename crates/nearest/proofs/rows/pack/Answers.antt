use mathlib.Core.Path.{◌≡◌, ◌∙◌}
use Prim.Native.Nat.{◌+◌, ◌-◌}
use native.Mathlib.Omega.{arith}
use Rattle.book.proofs.WalkSteps.{none_left, stepped, walked}
use Rattle.nearest.proofs.TableTurns.{pack_room, pack_long, pack_on, pack_end}
use Rattle.nearest.proofs.rows.pack.Goals as goal

pub slice_bounds-gather-end : goal.slice_bounds-gather-end
slice_bounds-gather-end c =
    let w = stepped c.args.book c.loop-table.table-iterator c.next.new.self c.loop-table.invariant.0 c.in-Some.table c.in-Some.ensures.steps in
    pack_room _ _ _ _ _ _ w.table_in _ _ c.loop-table.invariant.2

pub loop-table-preserved : goal.loop-table-preserved
loop-table-preserved c =
    let w = stepped c.args.book c.loop-table.table-iterator c.next.new.self c.loop-table.invariant.0 c.in-Some.table c.in-Some.ensures.steps in
    let d : c.loop-table.first + c.in-Some.table.rows - c.loop-table.first ≡ c.in-Some.table.rows = omega arith in
    let e = rw w.bytes at c.gather.ensures in (
      w.book,
      pack_long _ _ _ _ _ _ w.table_in _ _ c.loop-table.invariant.2 _ d _ e ∙ c.loop-table.invariant.1,
      rw w.next (pack_on _ _ _ _ _ _ w.table_in _ _ c.loop-table.invariant.2 _ d _ e),
    )

pub returns : goal.returns
returns c =
    pack_end _ _ _ _ c.loop-table.invariant.2
    (none_left c.args.book.bytes.now c.loop-table.table-iterator.index
    (walked c.args.book c.loop-table.table-iterator c.next.new.self c.loop-table.invariant.0 c.in-None.ensures.steps))
