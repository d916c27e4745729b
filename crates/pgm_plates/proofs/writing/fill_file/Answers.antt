-- fill_file: writes all of the open file, and finishes it.
use Rattle.outside.proofs.Steps.{written_then_finished}
use Rattle.pgm_plates.specs.Planes.{plate_in}
use Rattle.pgm_plates.specs.Plates.{spelled}
use Rattle.pgm_plates.proofs.writing.fill_file.Goals as goal

pub returns : goal.returns
returns g c = written_then_finished (spelled (plate_in c.args.image.now)) (g.R.Rack.state c.args.rack.now) (g.R.Rack.state c.write_whole.new.rack) (g.R.Rack.state c.finish.new.self) _ c.finish.result c.in_ok-write_whole.ensures c.finish.ensures
