-- finish_table: closes the table, whose passes have all been joined into this one, so that it has
-- all shares, and makes alone what the workers left.
use Rattle.std.proofs.Common.{◌<◌, sym, ap, ◌∙◌, subst, arith}
use Rattle.band_claims.specs.declared.table_key.TableKey.{TableKey}
use Rattle.band_claims.specs.TableKeys.{IsFit, shape_of}
use Rattle.band_claims.specs.Views.{times}
use Rattle.band_claims.specs.Accounts.{IsAccounted}
use Rattle.band_pieces.proofs.Finishing.{each_once, was_left}
use Rattle.band_pieces.proofs.pages.finish_table.Goals as goal

pub finish_alone-requires-clause-page : goal.finish_alone-requires-clause-page
finish_alone-requires-clause-page c = c.requires.page ∙ ap (λ (z : TableKey). z.page.value) (sym c.close_all-closed.ensures.table_key)

pub finish_alone-requires-clause-scratch : goal.finish_alone-requires-clause-scratch
finish_alone-requires-clause-scratch c = c.requires.scratch ∙ ap (λ (z : TableKey). z.layout) (sym c.close_all-closed.ensures.table_key)

pub finish_alone-requires-clause-published : goal.finish_alone-requires-clause-published
finish_alone-requires-clause-published c i l = c.close_all-closed.ensures.done i (omega (arith, l, ap (times i) c.close_all-closed.ensures.published))

pub returns-clause-table_key : goal.returns-clause-table_key
returns-clause-table_key c = c.finish_alone.ensures.table_key ∙ c.close_all-closed.ensures.table_key

pub returns-clause-workspace : goal.returns-clause-workspace
returns-clause-workspace c = c.finish_alone.ensures.workspace_stays ∙ c.close_all-closed.ensures.workspace

pub returns-clause-finished : goal.returns-clause-finished
returns-clause-finished c =
    let f = c.finish_alone.ensures in let k = c.close_all-closed.ensures in let same = f.table_key ∙ k.table_key in
    record {
      fit = subst IsFit (sym same) c.bands-fits.ensures.fits;
      same_page = ap (λ (z : TableKey). z.page.value) same ∙ sym c.requires.page;
      done = f.done;
      cells = f.cells;
      once = λ i. each_once c.close_all-closed.result c.finish_alone.new.closed i f.table_key f.published_stays (k.whole c.requires.whole i) (f.alone i);
      run = was_left c.close_all-closed.result c.finish_alone.new.closed c.args.pass.view k.run k.left c.requires.idle (k.settled c.requires.whole) f.table_key f.left_stays (f.published_stays ∙ k.published) (f.seen_stays ∙ k.seen) (f.looked_stays ∙ k.looked) (f.reported_stays ∙ k.reported) f.alone;
      accounted = λ i l. subst (λ (z : TableKey). IsAccounted z.layout.bands c.args.pass.view i) (sym same) (c.requires.accounted i (subst (λ (z : TableKey). i < (shape_of z).pieces) same l));
    }
