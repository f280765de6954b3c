use mathlib.Core.Path.{◌∙◌, sym, ap}
use mathlib.Core.List.{List}
use Rattle.format.specs.Format.{Table}
use Rattle.book.proofs.WalkSteps.{none_left, stepped, walked}
use Rattle.nearest.specs.Words.{can_hold}
use Rattle.nearest.proofs.TableTurns.{left_long, left_rows, left_on, hold_on, hold_no}
use Rattle.nearest.proofs.query.Query.can_hold.Goals as goal

pub split_at-requires : goal.split_at-requires
split_at-requires c =
    left_long _ _ _ _ _ _ (stepped c.args.self.now.book c.loop-table.table-iterator c.next.new.self c.loop-table.invariant.0 c.in-Some.table c.in-Some.ensures.steps).table_in _ c.loop-table.invariant.1

pub holds-requires : goal.holds-requires
holds-requires c =
    let w = stepped c.args.self.now.book c.loop-table.table-iterator c.next.new.self c.loop-table.invariant.0 c.in-Some.table c.in-Some.ensures.steps in
    rw w.bytes (c.split_at.ensures.front ∙ left_rows _ _ _ _ _ _ w.table_in _ c.loop-table.invariant.1)

pub returns-then-not-holds : goal.returns-then-not-holds
returns-then-not-holds c =
    let w = stepped c.args.self.now.book c.loop-table.table-iterator c.next.new.self c.loop-table.invariant.0 c.in-Some.table c.in-Some.ensures.steps in
    hold_no _ _ _ _ _ _ w.table_in _ _ c.holds.result (rw w.bytes at c.holds.ensures) c.if-not-holds.true ∙ c.loop-table.invariant.2

pub loop-table-preserved : goal.loop-table-preserved
loop-table-preserved c =
    let w = stepped c.args.self.now.book c.loop-table.table-iterator c.next.new.self c.loop-table.invariant.0 c.in-Some.table c.in-Some.ensures.steps in (
      w.book,
      rw (w.next, c.split_at.ensures.back) (left_on _ _ _ _ _ _ w.table_in _ c.loop-table.invariant.1),
      rw w.next (hold_on _ _ _ _ _ _ w.table_in _ _ c.holds.result (rw w.bytes at c.holds.ensures) c.if-not-holds.false)
          ∙ c.loop-table.invariant.2,
    )

pub returns : goal.returns
returns c =
    sym (ap (λ (ts : List Table). can_hold ts c.args.reading.now c.args.f)
    (none_left c.args.self.now.book.bytes.now c.loop-table.table-iterator.index (walked c.args.self.now.book c.loop-table.table-iterator c.next.new.self c.loop-table.invariant.0 c.in-None.ensures.steps)))
    ∙ c.loop-table.invariant.2
