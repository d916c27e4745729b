-- raster_fault: what may be written does not overlap.
use Rattle.std.proofs.Common.{◌≡◌, true}
use Rattle.raster_samples.specs.Checks.{are_inside as inside_spec, may_be as may_be_spec}
use Rattle.raster_samples.proofs.PlaceLemmas.{checked_apart}
use Rattle.raster_samples.proofs.check.raster_fault.Goals as goal

pub returns-clause-apart : goal.returns-clause-apart
returns-clause-apart c = λ writes. (
    let may : may_be_spec c.args.access c.args.raster.now ≡ true = cc in
    let within : inside_spec c.args.raster.now c.args.total ≡ true = cc in
    checked_apart c.args.access c.args.raster.now c.args.total may within writes)
