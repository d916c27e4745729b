-- What `wide_at` has to show.
use Rattle.std.proofs.Common.{sym}
use Rattle.pgm_plates.proofs.Spelled.{wide_nth}
use Rattle.pgm_plates.proofs.samples.wide_at.Goals as goal

pub returns : goal.returns
returns c = sym (wide_nth c.args.bytes.now c.args.at c.requires)
