-- Board::step: makes the event happen, and answers false exactly where it may not happen; nothing
-- then changes.
use Rattle.std.proofs.Common.{ap}
use Rattle.band_core.specs.LaidBoards.{LaidBoard}
use Rattle.band_core.specs.Shapes.{shape_of}
use Rattle.band_core.specs.Values.{cell}
use Rattle.band_core.specs.Recipe.{recipe}
use Rattle.band_core.proofs.Halo.{halo}
use Rattle.band_core.proofs.Shapes.{is_shape}
use Rattle.band_core.proofs.Steps.{sound_next}
use Rattle.band_core.proofs.board.Board.step.Goals as goal

pub returns-clause-sound : goal.returns-clause-sound
returns-clause-sound c = λ page is by sound.
    let layout = c.args.self.now.layout in
    sound_next (shape_of layout) (is_shape layout is.made) (cell page layout) (recipe page layout) (halo page layout is) c.args.self.now.board _ c.args.event c.change.result c.requires.range
    c.change.ensures.after (λ f. ap (λ (b : LaidBoard). b.board) (c.change.ensures.refused f)) by sound
