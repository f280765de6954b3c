-- `Listing::of` meets its contract. Assumes nothing.
use mathlib.Core.Path.{sym, ◌∙◌}
use Rattle.listing.proofs.WriteCases.{unfit_unwritable}
use Rattle.listing.proofs.Listing.of.Goals as goal

pub returns-then-not-fits : goal.returns-then-not-fits
returns-then-not-fits c = unfit_unwritable _ (sym c.fits.ensures ∙ c.if-not-fits.true)
