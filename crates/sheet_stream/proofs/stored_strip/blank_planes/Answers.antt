-- blank_planes: the planes of a strip, whose tints are all 0.
use Rattle.std.proofs.Common.{arith}
use Rattle.std.proofs.lemmas.Grind.{common_steps}
use Rattle.sheet_stream.proofs.stored_strip.blank_planes.Goals as goal

pub plane_of-requires-clause-narrow : goal.plane_of-requires-clause-narrow
plane_of-requires-clause-narrow c = grind (arith, common_steps)

pub loop-plane-preserved : goal.loop-plane-preserved
loop-plane-preserved c = grind (arith, common_steps)

pub returns : goal.returns
returns c = grind (arith, common_steps)
