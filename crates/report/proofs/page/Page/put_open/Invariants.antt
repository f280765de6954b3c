-- `report::lists::Page::put_open` meets its contract. The loop's invariant: the lines of the unanswered fields walked so far are written. Assumes nothing.
use Rattle.std.specs.Slice.Iter.{iter_rest}
use Rattle.std.specs.Iterator.Adapters.{enumerate_source, enumerate_count, zip_first, zip_second}
use Rattle.report.proofs.Pieces.{Walked}
use Rattle.report.proofs.page.Page.put_open.Given as goal

abbrev pub invariant-loop-field : goal.invariant-loop-field
invariant-loop-field l =
    Walked l.word l.masks l.answers l.initial.self
    (iter_rest (zip_first (enumerate_source l.field-iterator))) (iter_rest (zip_second (enumerate_source l.field-iterator)))
    (enumerate_count l.field-iterator) l.self
