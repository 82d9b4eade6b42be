-- The symbol at hand is spelled right by computation.
use Rattle.std.proofs.Common.{refl}
use Rattle.record.specs.Spelling.{symbol_ok}
use Rattle.fields.proofs.fits.Goals as goal

pub fits_beside-requires : goal.fits_beside-requires
unfolding symbol_ok
fits_beside-requires c = (c.requires, refl)
