use Rattle.std.proofs.Common.{sym, ◌∙◌, arith}
use Rattle.book.specs.Listed.{words_in}
use Rattle.book.proofs.Gathered.{different_counted, words_long}
use Rattle.book.proofs.Pairs.{distinct_old, distinct_new, distinct_none}
use Rattle.book.proofs.TableRows.{rows_fit}
use Rattle.book.proofs.view.Table.count_pairs.Goals as goal
use Rattle.book.proofs.view.Table.count_pairs.Goals.{then-not-stands_again, else-not-stands_again}

pub loop-k-preserved : goal.loop-k-preserved
loop-k-preserved c =
    let t = c.args.self.now in
    let long = words_long t.bytes.now t.arity t.first t.rows in
    elim c.if-not-stands_again.branch [
      | then-not-stands_again v ↦ let d = distinct_new (words_in t) c.loop-k.k (omega (arith, long)) (sym v.if-not-stands_again.true ∙ c.stands_again.ensures) in
          rw (v.found-is) (omega arith, omega (arith, d, c.loop-k.invariant.1))
      | else-not-stands_again v ↦ let d = distinct_old (words_in t) c.loop-k.k (omega (arith, long)) (sym v.if-not-stands_again.false ∙ c.stands_again.ensures) in
          rw (v.found-is) (omega arith, omega (arith, d, c.loop-k.invariant.1))
    ]

pub returns : goal.returns
returns c =
    let t = c.args.self.now in
    let long = words_long t.bytes.now t.arity t.first t.rows in
    let none = distinct_none (words_in t) c.loop-k.k (omega (arith, long)) in
    different_counted t.bytes.now _ _ _ (rows_fit t.stands) _ (omega (arith, none, c.loop-k.invariant.1), omega (arith, long))
