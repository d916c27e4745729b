-- finish_piece: makes a piece that is left, whose needs are among the pieces before it.
use Rattle.std.proofs.Common.{◌<◌, sym, ◌∙◌, subst}
use Rattle.page_model.specs.Bands.{pieces_of}
use Rattle.band_core.specs.Layouts.{Layout}
use Rattle.band_claims.specs.declared.table_key.TableKey.{TableKey}
use Rattle.band_pieces.proofs.Finishing.{finished_now, finished_same, needs_known}
use Rattle.band_pieces.proofs.alone.finish_piece.Goals as goal

pub returns-then-state-eq2-clause-finished : goal.returns-then-state-eq2-clause-finished
returns-then-state-eq2-clause-finished c = finished_same c.args.closed.now c.args.piece (sym c.state.ensures ∙ c.if-state-eq2.true) c.requires.cells

pub fill_piece-requires-clause-layout : goal.fill_piece-requires-clause-layout
fill_piece-requires-clause-layout c = c.requires.scratch

pub fill_piece-requires-clause-page : goal.fill_piece-requires-clause-page
fill_piece-requires-clause-page c = c.requires.page

pub fill_piece-requires-clause-fit : goal.fill_piece-requires-clause-fit
fill_piece-requires-clause-fit c = c.table_key-whole.ensures.fits

pub fill_piece-requires-clause-piece : goal.fill_piece-requires-clause-piece
fill_piece-requires-clause-piece c = subst (λ (z : Layout). c.args.piece < pieces_of z.bands) (sym c.requires.scratch) c.requires.piece

pub fill_piece-requires-clause-known : goal.fill_piece-requires-clause-known
fill_piece-requires-clause-known c n need = needs_known c.args.closed.now c.args.scratch.now.layout c.args.piece n c.table_key-whole.ensures.fits c.requires.scratch c.requires.piece c.requires.earlier c.requires.cells need

pub set_done-requires-clause-piece : goal.set_done-requires-clause-piece
set_done-requires-clause-piece c = subst (λ (z : TableKey). c.args.piece < pieces_of z.layout.bands) (sym c.fill_piece.ensures.filled.table_key) c.requires.piece

pub set_done-requires-clause-not_done : goal.set_done-requires-clause-not_done
set_done-requires-clause-not_done c = λ e. c.if-state-eq2.false (c.state.ensures ∙ (sym (c.fill_piece.ensures.filled.states c.args.piece c.requires.piece) ∙ e))

pub returns-clause-finished : goal.returns-clause-finished
returns-clause-finished c =
    let key = c.args.closed.now.table_key in let fit = c.table_key-whole.ensures.fits in let wide = c.table_key-whole.ensures.wide in let f = c.fill_piece.ensures.filled in
    finished_now c.args.closed.now c.fill_piece.new.seat c.set_done.new.self c.args.piece fit wide c.requires.piece (λ e. c.if-state-eq2.false (c.state.ensures ∙ e)) c.requires.cells f
    (record { table_key = c.set_done.ensures.table_key; lists = record { published = c.set_done.ensures.published; seen = c.set_done.ensures.seen; looked = c.set_done.ensures.looked; reported = c.set_done.ensures.reported; left = c.set_done.ensures.left; workspace = c.set_done.ensures.workspace }; words = c.set_done.ensures.words; alone = c.set_done.ensures.alone })
