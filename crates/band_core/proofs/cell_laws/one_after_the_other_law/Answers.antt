-- one_after_the_other_law: the cells of the pieces stand one after the other, without gap.
use Rattle.band_core.specs.Places.{cell_total}
use Rattle.band_core.proofs.Sums.{sum_next}
use Rattle.band_core.proofs.cell_laws.one_after_the_other_law.Goals as goal

pub returns : goal.returns
returns c = λ layout i. sum_next (cell_total layout) i
