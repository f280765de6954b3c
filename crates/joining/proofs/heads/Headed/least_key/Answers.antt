-- `joining::heads::Headed::least_key` meets its contract: the least of the keys that are not below `from`. Assumes nothing.
use mathlib.Core.Path.{◌≡◌, sym, ◌∙◌}
use Prim.Native.Nat.{min}
use borrow.Author.Rules.{rules}
use borrow.Author.Tests.{tests}
use Rattle.std.specs.List.{filter, reduce}
use Rattle.std.proofs.lemmas.Iterator.{YieldsList-from_slice, YieldsList-from_map}
use Rattle.std.proofs.lemmas.Iterator.Consumers.{YieldsList-at, YieldsList-from_filter, min_from_yields_List}
use Rattle.std.proofs.lemmas.Iterator.Adapters.{option_map_id}
use Rattle.joining.specs.declared.heads.Head.{Head}
use Rattle.joining.proofs.Heading.{keys, not_below, least_head}
use Rattle.joining.proofs.heads.Headed.least_key.Goals as goal

pub returns : goal.returns
returns g c =
    let n : c.min.result ≡ reduce min (filter (not_below c.args.from) (keys c.args.self.now.heads.now)) =
    sym (option_map_id _) ∙ min_from_yields_List _ _ c.min.ensures.ran
    (YieldsList-from_filter _ (not_below c.args.from)
    (YieldsList-at c.filter.ensures.source (YieldsList-from_map _ (λ (h : Head). h.key)
    (YieldsList-at c.map.ensures.source (YieldsList-from_slice c.args.self.now.heads.now c.iter.ensures.rest)) c.map.ensures.closure (λ x r q k. search (rules, tests))))
    c.filter.ensures.closure (λ x r q k. search (rules, tests))) in
    least_head _ _ _ _ c.args.self.now.headed n
