-- `book::view::Book::field_list` meets its contract: a slice of a list is its part. Assumes nothing.
use mathlib.Core.Path.{ap, ◌∙◌}
use Prim.Native.Nat.{ℕ}
use lib.ListN.{take, drop}
use Rattle.book.proofs.FieldList.{list_is}
use native.Mathlib.Omega.{arith}
use Rattle.book.proofs.view.Book.field_list.Goals as goal

pub returns : goal.returns
returns c = ap (λ (n : ℕ). take n (drop c.args.self.list c.args.self.bytes.now)) (omega arith) ∙ list_is c.args.self
