-- The loops of read_images: reads on to the image of that number.
use Rattle.pgm_plates.specs.Images.{Passed}
use Rattle.pgm_plates.proofs.pages.read_images.Given as goal

abbrev pub invariant-loop : goal.invariant-loop
invariant-loop g l = Passed (g.T.Tray.state l.fn.tray) (g.T.Tray.state l.tray) l.counter l.start
