-- copy_planes: copies tints of each plane to the start of the next strip's.
use Rattle.std.proofs.Common.{arith}
use Rattle.std.proofs.lemmas.Grind.{common_steps}
use Rattle.sheet_stream.proofs.common.copy_planes.Goals as goal

pub copy_plane-requires-clause-fits : goal.copy_plane-requires-clause-fits
copy_plane-requires-clause-fits c = grind (arith, common_steps)

pub loop-c-preserved : goal.loop-c-preserved
loop-c-preserved c = grind (arith, common_steps)
