-- inside_law: every sample lies in the memory.
use Rattle.raster_samples.proofs.PlaceLemmas.{inside}
use Rattle.raster_samples.proofs.laws.inside_law.Goals as goal

pub returns : goal.returns
returns c = inside c.args.raster.now c.args.total c.requires
