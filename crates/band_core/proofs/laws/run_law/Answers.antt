-- run_law: over every run of a page each board is sound for it, no cell changes once it is filled,
-- and no piece is claimed twice or done twice.
use Rattle.band_core.proofs.Runs.{run_law}
use Rattle.band_core.specs.Recipe.{recipe}
use Rattle.band_core.specs.Shapes.{shape_of}
use Rattle.band_core.specs.Values.{cell}
use Rattle.band_core.proofs.Halo.{halo}
use Rattle.band_core.proofs.Shapes.{is_shape}
use Rattle.band_core.proofs.laws.run_law.Goals as goal

pub returns : goal.returns
returns c = λ page layout is. run_law (shape_of layout) (is_shape layout is.made) (cell page layout) (recipe page layout) (halo page layout is)
