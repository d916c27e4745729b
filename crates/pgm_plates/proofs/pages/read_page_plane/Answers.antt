-- read_page_plane: reads the plate of that number as its plane.
use Rattle.std.proofs.Common.{Option, Some, Ok, IfSome, sym, subst, ◌≤◌, ◌*◌}
use Rattle.page_model.specs.Conditions.{IsPlane}
use Rattle.page_model.specs.Limits.{most_samples}
use Rattle.page_model.specs.declared.parts.Plane.{Plane}
use Rattle.pgm_plates.specs.declared.values.Form.TheVariants.{Tints}
use Rattle.pgm_plates.specs.declared.values.Values.{Values}
use Rattle.pgm_plates.specs.Planes.{map_ok, map_some, plate_of}
use Rattle.pgm_plates.specs.Readers.{Fit, plate_from}
use Rattle.pgm_plates.specs.Rows.{plane_with}
use Rattle.pgm_plates.specs.Sequences.{ReadsPage}
use Rattle.pgm_plates.proofs.ReadValues.{page_plane_read}
use Rattle.pgm_plates.proofs.pages.read_page_plane.Goals as goal

pub returns-in-Some-clause-plate : goal.returns-in-Some-clause-plate
returns-in-Some-clause-plate g c =
    let a = g.T.Tray.state c.args.tray.now in
    let b = g.T.Tray.state c.read_named.new.tray in
    subst (λ (p : Plane). ReadsPage c.args.name.now c.args.page a b (Ok (Some (plate_of p)))) (sym c.into_plane.ensures)
    (subst (λ (o : Option Values). ReadsPage c.args.name.now c.args.page a b (map_ok (map_some (plate_from Tints)) (Ok o))) c.in-Some.is c.in_ok-read.ensures.answer)

pub returns-in-Some-clause-in_range : goal.returns-in-Some-clause-in_range
returns-in-Some-clause-in_range g c =
    let a = g.T.Tray.state c.args.tray.now in
    let b = g.T.Tray.state c.read_named.new.tray in
    let read = subst (λ (o : Option Values). ReadsPage c.args.name.now c.args.page a b (map_ok (map_some (plate_from Tints)) (Ok o))) c.in-Some.is c.in_ok-read.ensures.answer in
    let below = subst (λ (o : Option Values). IfSome o (λ (r : Values). Fit r.header.maxval r.values)) c.in-Some.is c.in_ok-read.ensures.below in
    subst IsPlane (sym c.into_plane.ensures) (page_plane_read c.args.name.now c.args.page a b (plane_with c.in-Some.read.header c.in-Some.read.values) read below).0

pub returns-in-Some-clause-few : goal.returns-in-Some-clause-few
returns-in-Some-clause-few g c =
    let a = g.T.Tray.state c.args.tray.now in
    let b = g.T.Tray.state c.read_named.new.tray in
    let read = subst (λ (o : Option Values). ReadsPage c.args.name.now c.args.page a b (map_ok (map_some (plate_from Tints)) (Ok o))) c.in-Some.is c.in_ok-read.ensures.answer in
    let below = subst (λ (o : Option Values). IfSome o (λ (r : Values). Fit r.header.maxval r.values)) c.in-Some.is c.in_ok-read.ensures.below in
    subst (λ (p : Plane). p.width * p.height ≤ most_samples) (sym c.into_plane.ensures)
    (page_plane_read c.args.name.now c.args.page a b (plane_with c.in-Some.read.header c.in-Some.read.values) read below).1
