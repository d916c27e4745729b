-- turn_to: turns samples into that form.
use Rattle.std.proofs.Common.{◌≡◌, sym, subst}
use Rattle.pgm_plates.specs.declared.values.Form.{Form}
use Rattle.pgm_plates.specs.Readers.{samples_from}
use Rattle.pgm_plates.proofs.ReadValues.{turned_from}
use Rattle.pgm_plates.proofs.raster.turn_to.Goals as goal

pub returns-in-Tints-clause-samples : goal.returns-in-Tints-clause-samples
returns-in-Tints-clause-samples c =
    subst (λ (f : Form). samples_from f c.args.maxval c.turn.new.values ≡ c.args.values.now) (sym c.in-Tints.is)
    (turned_from c.args.maxval c.args.values.now c.turn.new.values c.turn.ensures c.requires.below).0

pub returns-in-Tints-clause-below : goal.returns-in-Tints-clause-below
returns-in-Tints-clause-below c = (turned_from c.args.maxval c.args.values.now c.turn.new.values c.turn.ensures c.requires.below).1
