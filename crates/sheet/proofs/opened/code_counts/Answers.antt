-- `code_counts` meets its contract. Assumes nothing.
use mathlib.Core.Path.{sym, ap, ◌∙◌}
use mathlib.Core.List.{List, ◌++◌}
use Prim.Native.Nat.{ℕ}
use native.Mathlib.Omega.{arith}
use lib.ListN.{length, drop, replicate}
use lib.Seq.{length-take-le}
use Rattle.consistency.specs.Consistency.{places}
use Rattle.book.proofs.FieldList.{list_long, list_few}
use Rattle.sheet.proofs.Taken.{counts_taken}
use Rattle.sheet.proofs.opened.code_counts.Goals as goal

pub copy_from_slice-requires : goal.copy_from_slice-requires
copy_from_slice-requires c =
    length-take-le c.args.book.fields _ (omega (arith, list_few c.args.book)) ∙ sym (ap length c.field_list.ensures ∙ list_long c.args.book)

pub returns : goal.returns
returns c =
    ap (λ (l : List ℕ). l ++ drop c.args.book.fields (replicate places 0)) (c.copy_from_slice.ensures.after ∙ c.field_list.ensures)
    ∙ counts_taken c.args.book
