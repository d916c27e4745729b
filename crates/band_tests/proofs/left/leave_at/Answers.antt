-- leave_at: what a table is that was left with so many pieces done and the next one claimed by a
-- pass that was let go, and
-- then finished alone.
use Rattle.std.proofs.Common.{sym, ap, ◌∙◌, subst, arith}
use Rattle.band_claims.specs.declared.table_key.TableKey.{TableKey}
use Rattle.band_claims.specs.TableKeys.{IsFit}
use Rattle.band_claims.specs.Views.{times}
use Rattle.band_pieces.specs.Workspace.{Memory}
use Rattle.band_pieces.proofs.Finishing.{has_cells}
use Rattle.band_tests.proofs.left.leave_at.Goals as goal

pub finish_alone-requires-clause-page : goal.finish_alone-requires-clause-page
finish_alone-requires-clause-page c = c.requires.page ∙ ap (λ (z : TableKey). z.page.value) (sym c.close_all-closed.ensures.table_key)

pub finish_alone-requires-clause-scratch : goal.finish_alone-requires-clause-scratch
finish_alone-requires-clause-scratch c = ap (λ (s : Memory). s.layout) c.make_first-made.ensures.scratch ∙ (c.requires.scratch ∙ ap (λ (z : TableKey). z.layout) (sym c.close_all-closed.ensures.table_key))

pub finish_alone-requires-clause-published : goal.finish_alone-requires-clause-published
finish_alone-requires-clause-published c i l = c.close_all-closed.ensures.done i (omega (arith, l, ap (times i) c.close_all-closed.ensures.published))

pub is_whole-requires-clause-fit : goal.is_whole-requires-clause-fit
is_whole-requires-clause-fit c = subst IsFit (sym (c.finish_alone.ensures.table_key ∙ c.close_all-closed.ensures.table_key)) c.bands-fits.ensures.fits

pub is_whole-requires-clause-page : goal.is_whole-requires-clause-page
is_whole-requires-clause-page c = c.requires.page ∙ ap (λ (z : TableKey). z.page.value) (sym (c.finish_alone.ensures.table_key ∙ c.close_all-closed.ensures.table_key))

pub is_whole-requires-clause-cells : goal.is_whole-requires-clause-cells
is_whole-requires-clause-cells c = has_cells c.finish_alone.new.closed (subst IsFit (sym (c.finish_alone.ensures.table_key ∙ c.close_all-closed.ensures.table_key)) c.bands-fits.ensures.fits) c.finish_alone.ensures.cells
