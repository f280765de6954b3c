-- `write_masks` meets its contract: too few numbers are lent, or the masks are written. Assumes nothing.
use mathlib.Core.Path.{ap, ◌∙◌}
use mathlib.Core.List.{List, ◌++◌}
use Prim.Native.Nat.{ℕ}
use lib.ListN.{take, drop}
use Rattle.sheet.proofs.Openings.{fields_at}
use Rattle.sheet.proofs.PlainMasks.{plain_masks}
use Rattle.sheet.proofs.ListCases.{masks_18, masks_done}
use Rattle.sheet.proofs.masks.write_masks.Goals as goal

pub returns-then-out-book : goal.returns-then-out-book
returns-then-out-book c = λ s. masks_18 _ _ _ _ (fields_at c.args.book.viewed) c.if-out-book.true

pub returns : goal.returns
returns c = λ s.
    masks_done _ _ _ _ (fields_at c.args.book.viewed) c.if-out-book.false
    (ap (λ (l : List ℕ). l ++ drop c.args.book.fields c.args.out.now)
    (c.copy_from_slice.ensures.after ∙ ap (take c.args.book.fields) c.plain-numbers.ensures ∙ plain_masks _ _ _ _ (fields_at c.args.book.viewed)))
