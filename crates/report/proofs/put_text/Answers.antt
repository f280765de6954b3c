-- `report::put_text` meets its contract: an empty page has room for any text. Assumes nothing.
use Rattle.format.specs.Format.{book_of}
use Rattle.sheet.specs.Shown.{held_by}
use Rattle.report.specs.Text.{sheet_text}
use Rattle.report.specs.Writes.{book_text}
use Rattle.report.proofs.Texts.{whole_room, first_room, second_room}
use Rattle.report.proofs.put_text.Goals as goal

pub put_refused-requires : goal.put_refused-requires
put_refused-requires c = whole_room c.args.book.now c.args.form.now _ c.requires _ c.in-Err.ensures

pub put_book-requires : goal.put_book-requires
put_book-requires c =
    first_room c.args.book.now c.args.form.now _ c.requires (book_text c.in-Ok.counts) (sheet_text (held_by c.in-Ok.held) (book_of c.args.book.now)) c.in-Ok.ensures.1

pub put_held-requires-clause-room : goal.put_held-requires-clause-room
put_held-requires-clause-room c =
    second_room c.args.book.now c.args.form.now _ c.requires (book_text c.in-Ok.counts) (sheet_text (held_by c.in-Ok.held) (book_of c.args.book.now)) c.in-Ok.ensures.1 _ c.put_book.ensures
