-- read_plate_within: reads the plate within these bounds that the file of that name spells.
use Rattle.std.proofs.Common.{Ok, sym, subst}
use Rattle.pgm_plates.specs.declared.plate.Plate.{Plate}
use Rattle.pgm_plates.specs.Reading.{ReadsPlateWithin}
use Rattle.pgm_plates.proofs.reading.read_plate_within.Goals as goal

pub returns : goal.returns
returns g c =
    subst (λ (p : Plate). ReadsPlateWithin c.args.bounds c.args.name.now (g.T.Tray.state c.args.tray.now) (g.T.Tray.state c.read_named.new.tray) (Ok p)) (sym c.into_plate.ensures) c.in_ok-read.ensures.answer
