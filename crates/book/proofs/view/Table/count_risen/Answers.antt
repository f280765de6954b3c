use Rattle.std.proofs.Common.{arith}
use Rattle.book.specs.Listed.{words_in}
use Rattle.book.proofs.Gathered.{words_long}
use Rattle.book.proofs.Following.{follow_start, follow_falls, follow_new, follow_same, follow_end}
use Rattle.book.proofs.view.Table.count_risen.Goals as goal
use Rattle.book.proofs.view.Table.count_risen.Goals.{then-before-word, else-before-word}

pub loop-k-init : goal.loop-k-init
loop-k-init c =
    let t = c.args.self.now in
    let long = words_long t.bytes.now t.arity t.first t.rows in
    follow_start (words_in t) _ (omega (arith, c.requires, long)) c.word-before.ensures

pub returns-then-word-before : goal.returns-then-word-before
returns-then-word-before c =
    let t = c.args.self.now in
    let long = words_long t.bytes.now t.arity t.first t.rows in
    follow_falls (words_in t) _ _ _ _ c.loop-k.invariant (omega (arith, long)) c.word-word.ensures c.if-word-before.true

pub loop-k-preserved : goal.loop-k-preserved
loop-k-preserved c =
    let t = c.args.self.now in
    let long = words_long t.bytes.now t.arity t.first t.rows in
    elim c.if-before-word.branch [
      | then-before-word w ↦ rw (w.found-is) (follow_new (words_in t) _ _ _ _ c.loop-k.invariant (omega (arith, long)) c.word-word.ensures w.if-before-word.true)
      | else-before-word w ↦ rw (w.found-is) (follow_same (words_in t) _ _ _ _ c.loop-k.invariant (omega (arith, long)) c.word-word.ensures c.if-word-before.false w.if-before-word.false)
    ]

pub returns : goal.returns
returns c =
    let t = c.args.self.now in
    let long = words_long t.bytes.now t.arity t.first t.rows in
    follow_end (words_in t) _ _ _ c.loop-k.invariant (omega (arith, long)) (omega (arith, long))
