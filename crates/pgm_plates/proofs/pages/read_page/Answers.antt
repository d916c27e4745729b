-- read_page: reads the plate of that number, counted from 0, of the file of that name, in which
-- plate files stand one directly after the other; or none, where there are at most so many.
use Rattle.std.proofs.Common.{Option, Some, Ok, sym, subst}
use Rattle.pgm_plates.specs.declared.plate.Plate.{Plate}
use Rattle.pgm_plates.specs.declared.values.Form.TheVariants.{Samples}
use Rattle.pgm_plates.specs.declared.values.Values.{Values}
use Rattle.pgm_plates.specs.Planes.{map_ok, map_some}
use Rattle.pgm_plates.specs.Readers.{plate_from}
use Rattle.pgm_plates.specs.Sequences.{ReadsPage}
use Rattle.pgm_plates.proofs.pages.read_page.Goals as goal

pub returns-in-Some : goal.returns-in-Some
returns-in-Some g c =
    let a = g.T.Tray.state c.args.tray.now in
    let b = g.T.Tray.state c.read_named.new.tray in
    subst (λ (p : Plate). ReadsPage c.args.name.now c.args.page a b (Ok (Some p))) (sym c.into_plate.ensures)
    (subst (λ (o : Option Values). ReadsPage c.args.name.now c.args.page a b (map_ok (map_some (plate_from Samples)) (Ok o))) c.in-Some.is c.in_ok-read.ensures.answer)
