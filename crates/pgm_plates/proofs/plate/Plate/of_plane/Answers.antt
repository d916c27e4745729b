-- What `Plate::of_plane` has to show.
use Rattle.std.proofs.Common.{subst, sym}
use Rattle.pgm_plates.specs.Plates.{IsPlate}
use Rattle.pgm_plates.proofs.Turned.{plate_in_range}
use Rattle.pgm_plates.proofs.plate.Plate.of_plane.Goals as goal

pub returns-clause-in_range : goal.returns-clause-in_range
returns-clause-in_range c = subst IsPlate (sym c.of_tints.ensures) (plate_in_range c.args.plane c.requires.in_range c.requires.few)
