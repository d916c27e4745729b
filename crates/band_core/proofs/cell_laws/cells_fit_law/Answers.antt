-- cells_fit_law: all cells together fit 31 bits.
use Rattle.band_core.proofs.Places.{cells_fit}
use Rattle.band_core.proofs.cell_laws.cells_fit_law.Goals as goal

pub returns : goal.returns
returns c = cells_fit
