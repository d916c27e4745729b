-- Closed::cell: the word of a cell.
use Rattle.std.proofs.Common.{ap, ◌∙◌, ◌+◌, slice_index}
use Rattle.page_model.specs.Bands.{pieces_of}
use Rattle.band_claims.specs.Rule.{cell_word}
use Rattle.band_claims.specs.TableKeys.{shape_of}
use Rattle.band_claims.proofs.Marks.{at_word}
use Rattle.band_claims.proofs.closed.Closed.cell.Goals as goal

pub returns : goal.returns
returns c =
    at_word _ (c.pieces.result + c.args.cell) c.word.result c.word.ensures
    ∙ (ap (λ n. slice_index c.self.inside.table.words.items (n + c.args.cell)) (c.pieces.ensures.value ∙ ap pieces_of c.bands.ensures.value) ∙ ap (λ z. cell_word (shape_of z.table_key) z.words c.args.cell) c.self.view_is)
