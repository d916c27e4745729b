-- copy_plane: copies tints of a plane to the start of the same plane of the next strip.
use Rattle.std.proofs.Common.{arith}
use Rattle.std.proofs.lemmas.Grind.{common_steps}
use Rattle.sheet_stream.proofs.common.copy_plane.Goals as goal

pub returns : goal.returns
returns c = grind (arith, common_steps)
