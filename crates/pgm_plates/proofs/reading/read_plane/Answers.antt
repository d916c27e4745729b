-- read_plane: reads the plate of a page that the file of that name spells, as its plane.
use Rattle.std.proofs.Common.{Ok, sym, subst, ◌≤◌, ◌*◌}
use Rattle.page_model.specs.Conditions.{IsPlane}
use Rattle.page_model.specs.Limits.{most_samples}
use Rattle.page_model.specs.declared.parts.Plane.{Plane}
use Rattle.pgm_plates.specs.Planes.{plate_of}
use Rattle.pgm_plates.specs.Reading.{ReadsPlate}
use Rattle.pgm_plates.specs.Rows.{plane_with}
use Rattle.pgm_plates.proofs.ReadValues.{plane_read}
use Rattle.pgm_plates.proofs.reading.read_plane.Goals as goal

pub returns-clause-plate : goal.returns-clause-plate
returns-clause-plate g c =
    subst (λ (p : Plane). ReadsPlate c.args.name.now (g.T.Tray.state c.args.tray.now) (g.T.Tray.state c.read_named.new.tray) (Ok (plate_of p))) (sym c.into_plane.ensures) c.in_ok-read.ensures.answer

pub returns-clause-in_range : goal.returns-clause-in_range
returns-clause-in_range g c =
    let plane = plane_with c.in_ok-read.read.header c.in_ok-read.read.values in
    subst IsPlane (sym c.into_plane.ensures) (plane_read c.args.name.now (g.T.Tray.state c.args.tray.now) (g.T.Tray.state c.read_named.new.tray) plane c.in_ok-read.ensures.answer c.in_ok-read.ensures.below).0

pub returns-clause-few : goal.returns-clause-few
returns-clause-few g c =
    let plane = plane_with c.in_ok-read.read.header c.in_ok-read.read.values in
    subst (λ (p : Plane). p.width * p.height ≤ most_samples) (sym c.into_plane.ensures)
    (plane_read c.args.name.now (g.T.Tray.state c.args.tray.now) (g.T.Tray.state c.read_named.new.tray) plane c.in_ok-read.ensures.answer c.in_ok-read.ensures.below).1
