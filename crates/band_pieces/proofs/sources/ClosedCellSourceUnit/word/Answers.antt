-- What `ClosedCellSourceUnit::word` has to show.
use Rattle.band_claims.proofs.Steps.{small_word}
use Rattle.band_pieces.proofs.sources.ClosedCellSourceUnit.word.Goals as goal

pub cell-requires : goal.cell-requires
cell-requires c = (small_word c.args.self.now.table_key c.layout-fits.ensures.fits c.requires.known.0 c.args.number c.requires.known.1).0
