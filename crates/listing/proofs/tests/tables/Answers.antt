use mathlib.Core.Path.{◌≡◌, sym, ◌∙◌}
use Prim.Native.Nat.{suc, ◌+◌, ◌-◌}
use native.Mathlib.Omega.{arith}
use Rattle.listing.proofs.Testing.{fit_next, fit_stop, fit_short, fit_end}
use Rattle.listing.proofs.tests.tables.Goals as goal

pub returns-in_default : goal.returns-in_default
returns-in_default c =
    let k : c.args.count - c.loop.counter ≡ suc (c.args.count - (c.loop.counter + 1)) = omega arith in
    fit_stop c.args.listing.now c.loop.next _ _ k (sym c.in_default.is ∙ c.table.ensures) ∙ c.loop.invariant

pub loop-preserved : goal.loop-preserved
loop-preserved c =
    let k : c.args.count - c.loop.counter ≡ suc (c.args.count - (c.loop.counter + 1)) = omega arith in
    fit_next c.args.listing.now c.loop.next _ _ k _ (sym c.in-Some.is ∙ c.table.ensures) ∙ c.loop.invariant

pub returns-then-next-listing : goal.returns-then-next-listing
returns-then-next-listing c = fit_end c.args.listing.now c.loop.next (c.args.count - c.loop.counter) (omega arith) c.if-next-listing.true ∙ c.loop.invariant

pub returns-else-next-listing : goal.returns-else-next-listing
returns-else-next-listing c = fit_short c.args.listing.now c.loop.next (c.args.count - c.loop.counter) (omega arith) c.if-next-listing.false ∙ c.loop.invariant
