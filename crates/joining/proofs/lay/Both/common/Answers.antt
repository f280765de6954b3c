-- `joining::lay::Both::common` meets its contract: the tables of the one book, then those of the other. Assumes nothing.
use Rattle.joining.proofs.Narrowing.{narrowed_append}
use Rattle.joining.proofs.LayTurns.{found, every_word}
use Rattle.joining.proofs.lay.Both.common.Goals as goal

pub unwrap-requires : goal.unwrap-requires
unwrap-requires g c = found _ _ (c.requires) _ _ _ (narrowed_append _ _ _ _ _ _ _ _ _ c.narrow.ensures c.narrow-2.ensures)

pub returns : goal.returns
returns g c =
    every_word _ _ (c.requires) _ _ _ (narrowed_append _ _ _ _ _ _ _ _ _ c.narrow.ensures c.narrow-2.ensures) c.narrow-2.new.self.held _ c.unwrap.ensures
