-- `joining::rows::table_set` meets its contract. Assumes nothing.
use mathlib.Core.Path.{◌∙◌}
use lib.Seq.{length-take-le}
use Rattle.book.proofs.TableRows.{rows_few}
use Rattle.format.specs.Format.{table_at}
use Rattle.joining.specs.Words.{table_words}
use Rattle.joining.specs.Sets.{SetOf}
use Rattle.joining.proofs.Loading.{sorted_falls, judged_yes, set_sorted, set_stands, set_front, view_long}
use native.Mathlib.Omega.{arith}
use Rattle.joining.proofs.rows.table_set.Goals.{then-not-is_sorted, else-not-is_sorted}
use Rattle.joining.proofs.rows.table_set.Goals as goal

pub keep_once-requires : goal.keep_once-requires
keep_once-requires c = elim c.if-not-is_sorted.branch [
  | then-not-is_sorted w ↦ rw w.words-is (sorted_falls _ _ w.sort.ensures (omega (arith, w.sort.ensures.long, rows_few c.args.table.stands, length-take-le c.args.table.rows c.args.words.now c.requires)))
  | else-not-is_sorted w ↦ rw w.words-is (judged_yes _ c.is_sorted.ensures w.if-not-is_sorted.false)
]

pub returns : goal.returns
returns c =
    let t : SetOf (table_words (table_at c.args.table.bytes.now c.args.table.at)) c.keep_once.result c.keep_once.new.words = elim c.if-not-is_sorted.branch [
      | then-not-is_sorted w ↦ set_sorted _ _ _ _ _ c.gather.ensures w.sort.ensures (rw w.words-is at c.keep_once.ensures)
      | else-not-is_sorted w ↦ set_stands _ _ _ _ (w.words-is ∙ c.gather.ensures) c.keep_once.ensures
    ] in
    set_front _ _ _ _ (omega (arith, t.within, view_long _ _ _ _ _ _ c.args.table.stands, length-take-le c.args.table.rows c.args.words.now c.requires)) t
