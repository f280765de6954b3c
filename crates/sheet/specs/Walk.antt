-- A walk over the codes of a mask, rising. Assumes nothing.
use Rattle.std.specs.Prelude.{ℕ, ◌≡◌, ◌<◌, [], ◌∷◌, length, Some, None, Option}
use Rattle.std.specs.Iterator.{Count, at_most}
use Rattle.format.specs.Format.{code_limit}
use Rattle.sheet.specs.Lists.{codes_of}
use Rattle.sheet.specs.declared.mask_codes.MaskCodes.{MaskCodes}

-- one step gives the first code that is left, and goes on behind it; with none left the walk stays where it is
abbrev pub GivesCode : MaskCodes → Option ℕ → MaskCodes → Type 0
GivesCode old None new = (codes_of old.left ≡ []) × (new ≡ old)
GivesCode old (Some code) new = (codes_of old.left ≡ code ∷ codes_of new.left) × (code < code_limit)

-- how many codes are left
abbrev pub codes_left : MaskCodes → Count
codes_left walk = at_most (length (codes_of walk.left))
