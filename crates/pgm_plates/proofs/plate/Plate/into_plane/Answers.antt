-- What `Plate::into_plane` has to show.
use Rattle.std.proofs.Common.{subst, sym}
use Rattle.page_model.specs.Conditions.{IsPlane}
use Rattle.pgm_plates.proofs.Turned.{plane_in_range}
use Rattle.pgm_plates.proofs.plate.Plate.into_plane.Goals as goal

pub returns-clause-in_range : goal.returns-clause-in_range
returns-clause-in_range c = subst IsPlane (sym c.into_tints.ensures) (plane_in_range c.args.self c.requires)
