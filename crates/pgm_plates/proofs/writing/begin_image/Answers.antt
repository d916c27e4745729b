-- begin_image: creates the file of that name and writes the header of a plate on it, in its
-- canonical spelling.
use Rattle.std.proofs.lemmas.Grind.{common_steps}
use Rattle.std.proofs.Common.{arith}
use Rattle.pgm_plates.proofs.WrittenRows.{image_begun}
use Rattle.pgm_plates.proofs.writing.begin_image.Goals as goal

pub returns : goal.returns
returns g c = image_begun c.args.name.now c.args.header (g.R.Rack.state c.args.rack.now) (g.R.Rack.state c.create.new.self) (g.R.Rack.state c.write_header.new.rack) c.write_header.result c.in_ok-create.ensures c.write_header.ensures

pub returns-in_err-create : goal.returns-in_err-create
returns-in_err-create g c = grind (arith, common_steps)
