-- run_law: where the recipe gives the defined value of each cell whose piece has its needs done,
-- over every run each board is sound, no cell changes once it is filled, and no piece is claimed
-- twice or done twice.
use Rattle.band_core.proofs.Runs.{run_law}
use Rattle.band_core.proofs.board_laws.run_law.Goals as goal

pub returns : goal.returns
returns c = run_law
