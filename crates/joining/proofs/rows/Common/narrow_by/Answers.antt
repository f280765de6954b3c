-- `joining::rows::Common::narrow_by` meets its contract. Assumes nothing.
use mathlib.Core.Path.{sym}
use lib.Seq.{length-take-le}
use Rattle.format.specs.Format.{table_at}
use Rattle.joining.proofs.Loading.{view_long}
use Rattle.joining.proofs.Narrowing.{held_some, narrow_first, narrow_meet, meet_held, taken_rises}
use borrow.Author.Rules.{rules}
use native.Mathlib.Omega.{arith}
use Rattle.joining.proofs.rows.Common.narrow_by.Goals as goal

pub invariant_of-self-clause-held : goal.invariant_of-self-clause-held
invariant_of-self-clause-held g c = held_some _ _ (omega (arith, c.table_set.ensures.within, view_long _ _ _ _ _ _ c.args.table.stands, c.requires)) c.table_set.ensures.rises

pub returns-in-None : goal.returns-in-None
returns-in-None g c = rw c.in-None.is (narrow_first _ _ _ _ c.table_set.ensures)

pub slice_bounds-keep_common-end-in-Some-2 : goal.slice_bounds-keep_common-end-in-Some-2
slice_bounds-keep_common-end-in-Some-2 g c = sym (length-take-le _ _ (omega (arith, c.table_set-m.ensures.within, view_long _ _ _ _ _ _ c.args.table.stands, c.requires)))

pub keep_common-requires : goal.keep_common-requires
keep_common-requires g c = (
  taken_rises _ _ (c.args.self.now.held.few _ c.in-Some.is) (c.args.self.now.held.rises _ c.in-Some.is),
  taken_rises _ _ (omega (arith, c.table_set-m.ensures.within, view_long _ _ _ _ _ _ c.args.table.stands, c.requires)) c.table_set-m.ensures.rises,
)

pub invariant_of-self-in-Some-2-clause-held : goal.invariant_of-self-in-Some-2-clause-held
invariant_of-self-in-Some-2-clause-held g c =
    meet_held (table_at c.args.table.bytes.now c.args.table.at) _ _ (c.args.self.now.held.few _ c.in-Some.is) _ _
    (omega (arith, c.table_set-m.ensures.within, view_long _ _ _ _ _ _ c.args.table.stands, c.requires)) c.table_set-m.ensures _ _ (search rules)
    c.keep_common.ensures

pub returns-in-Some : goal.returns-in-Some
returns-in-Some g c =
    rw c.in-Some.is
    (narrow_meet _ _ _ (c.args.self.now.held.few _ c.in-Some.is) _ _
    (omega (arith, c.table_set-m.ensures.within, view_long _ _ _ _ _ _ c.args.table.stands, c.requires)) c.table_set-m.ensures _ _ (search rules)
    c.keep_common.ensures)
