use mathlib.Core.Path.{sym}
use Rattle.nearest.proofs.Products.{product_on, product_more, product_end}
use Rattle.nearest.proofs.too_many.Goals as goal

pub returns-then-many-gt-READINGS : goal.returns-then-many-gt-READINGS
returns-then-many-gt-READINGS c =
    let e = sym c.loop-count.invariant.2 in
    product_more _ _ _ _ c.args.book.viewed.numbers _ c.loop-count.count-index _ (rw e c.loop-count-test.true) (rw e c.from-many.ensures)
    c.loop-count.invariant.1 c.if-many-gt-READINGS.true

pub loop-count-preserved : goal.loop-count-preserved
loop-count-preserved c =
    let e = sym c.loop-count.invariant.2 in (
      c.if-many-gt-READINGS.false,
      product_on _ _ _ _ c.args.book.viewed.numbers _ c.loop-count.count-index _ (rw e c.loop-count-test.true) (rw e c.from-many.ensures)
          c.loop-count.invariant.1,
      c.loop-count.invariant.2,
    )

pub returns : goal.returns
returns c =
    product_end _ _ _ _ c.args.book.viewed.numbers _ c.loop-count.count-index (rw (sym c.loop-count.invariant.2) c.loop-count-test.false) c.loop-count.invariant.1
    c.loop-count.invariant.0
