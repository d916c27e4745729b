-- unpack_gives_back_law: each packed value stands in its lane.
use Rattle.band_core.proofs.Lanes.{lane_packed}
use Rattle.band_core.proofs.cell_laws.unpack_gives_back_law.Goals as goal

pub returns : goal.returns
returns c = lane_packed
