-- is_finished: whether a closed table of a finished page is that of the two tiles.
use Rattle.std.proofs.Common.{sym}
use Rattle.band_pieces.proofs.Finishing.{finished_has_cells}
use Rattle.band_tests.proofs.made.is_finished.Goals as goal

pub is_whole-requires-clause-page : goal.is_whole-requires-clause-page
is_whole-requires-clause-page c = sym c.requires.same_page

pub is_whole-requires-clause-cells : goal.is_whole-requires-clause-cells
is_whole-requires-clause-cells c = finished_has_cells c.args.page.now c.args.closed.now c.requires
