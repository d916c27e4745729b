-- What `write_image` has to show.
use Rattle.std.proofs.lemmas.Grind.{common_steps}
use Rattle.std.proofs.Common.{arith}
use Rattle.outside.proofs.Steps.{created_then_filled}
use Rattle.pgm_plates.specs.Planes.{plate_in}
use Rattle.pgm_plates.specs.Plates.{spelled}
use Rattle.pgm_plates.proofs.writing.write_image.Goals as goal

pub returns : goal.returns
returns g c = created_then_filled c.args.name.now (spelled (plate_in c.args.image.now)) (g.R.Rack.state c.args.rack.now) (g.R.Rack.state c.create.new.self) (g.R.Rack.state c.fill_file.new.rack) _ c.fill_file.result c.in_ok-create.ensures c.fill_file.ensures

pub returns-in_err-create : goal.returns-in_err-create
returns-in_err-create g c = grind (arith, common_steps)
