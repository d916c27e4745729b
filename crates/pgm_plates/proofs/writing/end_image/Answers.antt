-- end_image: finishes the file of a plate, after its last tint.
use Rattle.pgm_plates.proofs.WrittenRows.{image_ended}
use Rattle.pgm_plates.proofs.writing.end_image.Goals as goal

pub returns : goal.returns
returns g c = image_ended (g.R.Rack.state c.args.rack.now) (g.R.Rack.state c.finish.new.self) c.finish.result c.finish.ensures
