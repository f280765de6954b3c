use Rattle.std.proofs.Common.{arith, List, ℕ, Bor, refl, ap, ◌∙◌}
use Rattle.consistency.specs.Consistency.{places}
use Rattle.book.specs.declared.view.Book.{Book}
use Rattle.filter.proofs.Lists.{zeros}
use Rattle.filter.proofs.Surveys.{surveyed_none, walked_more}
use Rattle.filter.proofs.survey.Survey.of.Goals as goal

pub loop-table-init : goal.loop-table-init
loop-table-init c =
    rw c.into_iter-table-iterator.ensures.into_iter_gives
    (record {
      book = c.tables-table-items.ensures.book;
      below = omega (arith, c.tables-table-items.ensures.index);
      to = rw c.tables-table-items.ensures.index (surveyed_none refl refl (zeros places));
    })

pub loop-table-preserved : goal.loop-table-preserved
loop-table-preserved c =
    let (below, bytes, index, at, on, next) = c.in-Some.ensures.steps in
    let same = c.loop-table.invariant.book in
    record {
      book = on ∙ same;
      below = omega (arith, ap (λ (b : Book). b.tables) same);
      to = walked_more c.in-Some.table.stands (ap (λ (b : Bor (List ℕ)). b.now) (bytes ∙ ap (λ (b : Book). b.bytes) same)) index next c.loop-table.invariant.to c.watch_table.ensures;
    }
