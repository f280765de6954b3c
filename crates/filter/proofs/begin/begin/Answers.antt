use Rattle.std.proofs.Common.{arith, refl, ◌∙◌}
use Rattle.filter.proofs.Beginnings.{begun}
use Rattle.filter.proofs.Limits.{codes_few}
use Rattle.filter.proofs.WordsGiven.{below_none, below_next}
use Rattle.filter.proofs.begin.begin.Goals as goal

pub loop-number-init : goal.loop-number-init
loop-number-init c = below_none c.requires.clear

pub loop-number-preserved : goal.loop-number-preserved
loop-number-preserved c =
    let few = codes_few c.args.book.bytes.now c.args.book.viewed.numbers.promise in
    below_next few (c.from.ensures ∙ c.codes.ensures.is) c.loop-number.invariant c.lay.ensures (λ k. refl)

pub returns : goal.returns
returns c = begun c.args.book.viewed.numbers c.loop-number.invariant (omega arith)
