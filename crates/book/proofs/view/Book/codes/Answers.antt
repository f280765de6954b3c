-- `book::view::Book::codes` meets its contract: the field's byte of the field list. Assumes nothing.
use Rattle.book.proofs.FieldList.{codes_is, codes_few}
use Rattle.book.proofs.view.Book.codes.Goals as goal

pub returns-clause-is : goal.returns-clause-is
returns-clause-is c = codes_is c.args.self c.args.field c.requires

pub returns-clause-few : goal.returns-clause-few
returns-clause-few c = codes_few c.args.self c.args.field c.requires
