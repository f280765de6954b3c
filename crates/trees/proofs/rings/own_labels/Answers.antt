-- `rings::own_labels` meets its contract. Assumes nothing.
use Rattle.std.proofs.Common.{rules}
use Rattle.trees.proofs.rings.own_labels.Goals as goal

pub returns : goal.returns
returns c =
    record {
      long = c.from_fn.ensures.items.long;
      each = λ g l. let (p, q, call) = c.from_fn.ensures.items.at g 0 l in search rules;
    }
