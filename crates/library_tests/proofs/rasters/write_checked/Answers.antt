-- write_checked: a raster without a fault, to be written, has samples that do not overlap.
use Rattle.std.proofs.Common.{refl}
use Rattle.library_tests.proofs.rasters.write_checked.Goals as goal

pub write-requires-clause-apart : goal.write-requires-clause-apart
write-requires-clause-apart c = c.in-None.ensures.apart refl
