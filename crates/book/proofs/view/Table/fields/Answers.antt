-- `book::view::Table::fields` meets its contract: a slice of a list is its part. Assumes nothing.
use mathlib.Core.Path.{ap, ◌∙◌}
use Prim.Native.Nat.{ℕ, ◌+◌}
use native.Mathlib.Omega.{arith}
use lib.ListN.{take, drop}
use Rattle.book.proofs.TableRows.{view_fields}
use Rattle.book.proofs.view.Table.fields.Goals as goal

pub returns : goal.returns
returns c = ap (λ (n : ℕ). take n (drop (c.args.self.at + 1) c.args.self.bytes.now)) (omega arith) ∙ view_fields c.args.self.stands
