-- finish_alone: makes each piece that is not done, in order, from the closed words alone, and adds
-- it to the list of the pieces that were made alone.
use Rattle.std.proofs.Common.{◌≡◌, ℕ, ◌<◌, ◌&&◌, not, nat_lt, refl, sym, ap, ◌∙◌, subst, arith}
use Rattle.page_model.specs.Bands.{AreBands, pieces_of}
use Rattle.std.specs.Prelude.{◌==◌}
use Rattle.band_claims.specs.Rule.{piece_word}
use Rattle.band_claims.specs.Views.{one_if}
use Rattle.band_claims.specs.declared.table_key.TableKey.{TableKey}
use Rattle.band_pieces.specs.Workspace.{Memory}
use Rattle.band_pieces.proofs.Finishing.{alone_once, cells_all, finished_more, finished_none}
use Rattle.band_pieces.proofs.alone.finish_alone.Goals as goal

pub pieces-count-requires : goal.pieces-count-requires
pieces-count-requires c = record { bands = subst AreBands (sym c.bands.ensures) c.table_key-whole.ensures.fits.made.bands }

pub loop-piece-init : goal.loop-piece-init
loop-piece-init c = record {
  end = c.pieces-count.ensures.value ∙ ap pieces_of c.bands.ensures;
  scratch = refl;
  closed = finished_none c.args.closed.now c.table_key-whole.ensures.fits c.requires.words c.requires.sound c.requires.alone;
}

pub finish_piece-requires-clause-page : goal.finish_piece-requires-clause-page
finish_piece-requires-clause-page c = let e = c.loop-piece.invariant.closed.table_key in subst (λ (z : TableKey). c.args.page.now ≡ z.page.value) (sym e) c.requires.page

pub finish_piece-requires-clause-scratch : goal.finish_piece-requires-clause-scratch
finish_piece-requires-clause-scratch c = let e = c.loop-piece.invariant.closed.table_key in ap (λ (s : Memory). s.layout) c.loop-piece.invariant.scratch ∙ (c.requires.scratch ∙ ap (λ z. z.layout) (sym e))

pub finish_piece-requires-clause-piece : goal.finish_piece-requires-clause-piece
finish_piece-requires-clause-piece c = let e = c.loop-piece.invariant.closed.table_key in subst (λ (z : TableKey). c.loop-piece.piece < pieces_of z.layout.bands) (sym e) (omega (arith, c.loop-piece-test.true, c.loop-piece.invariant.end))

pub finish_piece-requires-clause-earlier : goal.finish_piece-requires-clause-earlier
finish_piece-requires-clause-earlier c = c.loop-piece.invariant.closed.done

pub finish_piece-requires-clause-cells : goal.finish_piece-requires-clause-cells
finish_piece-requires-clause-cells c = c.loop-piece.invariant.closed.cells

pub loop-piece-preserved : goal.loop-piece-preserved
loop-piece-preserved c = record {
  end = c.loop-piece.invariant.end;
  scratch = c.finish_piece.ensures.scratch ∙ c.loop-piece.invariant.scratch;
  closed = finished_more c.args.closed.now c.loop-piece.closed c.finish_piece.new.closed c.loop-piece.piece (omega (arith, c.loop-piece-test.true, c.loop-piece.invariant.end)) c.loop-piece.invariant.closed c.finish_piece.ensures.finished;
}

pub returns-clause-table_key : goal.returns-clause-table_key
returns-clause-table_key c = c.loop-piece.invariant.closed.table_key

pub returns-clause-done : goal.returns-clause-done
returns-clause-done c i l =
    let e = c.loop-piece.invariant.closed.table_key in
    c.loop-piece.invariant.closed.done i (omega (arith, l, ap (λ (z : TableKey). pieces_of z.layout.bands) e, c.loop-piece-test.false, c.loop-piece.invariant.end))

pub returns-clause-cells : goal.returns-clause-cells
returns-clause-cells c = cells_all c.args.closed.now c.loop-piece.closed c.loop-piece.piece c.table_key-whole.ensures.fits (omega (arith, c.loop-piece-test.false, c.loop-piece.invariant.end)) c.loop-piece.invariant.closed

pub returns-clause-once : goal.returns-clause-once
returns-clause-once c i = alone_once c.args.closed.now c.loop-piece.closed c.loop-piece.piece i c.requires.published c.requires.once c.loop-piece.invariant.closed

pub returns-clause-alone : goal.returns-clause-alone
returns-clause-alone c i = c.loop-piece.invariant.closed.alone i ∙ ap (λ (n : ℕ). one_if (nat_lt i n && not (piece_word c.args.closed.now.words i == 2))) (omega (arith, c.loop-piece-test.false, c.loop-piece.invariant.end, c.loop-piece.auto.piece-end, c.pieces-count.ensures.value, ap pieces_of c.bands.ensures))

pub returns-clause-published_stays : goal.returns-clause-published_stays
returns-clause-published_stays c = c.loop-piece.invariant.closed.lists.published

pub returns-clause-seen_stays : goal.returns-clause-seen_stays
returns-clause-seen_stays c = c.loop-piece.invariant.closed.lists.seen

pub returns-clause-looked_stays : goal.returns-clause-looked_stays
returns-clause-looked_stays c = c.loop-piece.invariant.closed.lists.looked

pub returns-clause-reported_stays : goal.returns-clause-reported_stays
returns-clause-reported_stays c = c.loop-piece.invariant.closed.lists.reported

pub returns-clause-left_stays : goal.returns-clause-left_stays
returns-clause-left_stays c = c.loop-piece.invariant.closed.lists.left

pub returns-clause-workspace_stays : goal.returns-clause-workspace_stays
returns-clause-workspace_stays c = c.loop-piece.invariant.closed.lists.workspace
