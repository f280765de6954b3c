-- `joining::rows::Common::narrow` meets its contract. Assumes nothing.
use mathlib.Core.Path.{sym, ◌∙◌}
use Prim.Native.Nat.{◌<◌}
use lib.Seq.{take_all}
use Rattle.format.specs.Format.{table_count, book_of}
use Rattle.format.proofs.Views.{tables_count}
use Rattle.joining.proofs.Loading.{rows_in_book, view_table}
use Rattle.joining.proofs.Narrowing.{narrowed_skip, narrowed_one, narrowed_append, tables_on}
use native.Mathlib.Omega.{arith}
use Rattle.joining.proofs.rows.Common.narrow.Goals.{then-book-i, else-book-i}
use Rattle.joining.proofs.rows.Common.narrow.Goals as goal

pub narrow_by-requires : goal.narrow_by-requires
narrow_by-requires g c = (omega arith, omega (arith, rows_in_book c.args.book.now.book c.table.result c.table.ensures.bytes, c.args.book.now.few))

pub loop-i-preserved : goal.loop-i-preserved
loop-i-preserved g c =
    let l : c.loop-i.i < table_count c.args.book.now.book.bytes.now = omega (arith, c.loop-i-test.true, c.args.book.now.headed.as_many) in
    let h = c.args.book.now.headed.each c.loop-i.i l in
    rw (tables_on _ _ l) (elim c.if-book-i.branch [
      | then-book-i w ↦
          let e = view_table c.args.book.now.book w.table.result c.loop-i.i w.table.ensures.bytes w.table.ensures.index in
          rw w.self-is (narrowed_append _ _ _ _ _ _ _ _ _ c.loop-i.invariant (narrowed_one _ _ _ _ _ _ (sym h.key ∙ w.if-book-i.true) (rw e at w.narrow_by.ensures)))
      | else-book-i w ↦ rw w.self-is (narrowed_append _ _ _ _ _ _ _ _ _ c.loop-i.invariant (narrowed_skip _ _ _ _ (λ e. w.if-book-i.false (h.key ∙ e))))
    ])

pub returns : goal.returns
returns g c =
    let h = take_all c.loop-i.i (book_of c.args.book.now.book.bytes.now).tables (omega (arith, c.loop-i-test.false, c.args.book.now.headed.as_many, tables_count c.args.book.now.book.bytes.now)) in
    rw h at c.loop-i.invariant
