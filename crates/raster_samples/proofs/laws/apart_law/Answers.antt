-- apart_law: samples of nested axes do not overlap.
use Rattle.raster_samples.proofs.PlaceLemmas.{apart}
use Rattle.raster_samples.proofs.laws.apart_law.Goals as goal

pub returns : goal.returns
returns c = apart c.args.raster.now c.requires
