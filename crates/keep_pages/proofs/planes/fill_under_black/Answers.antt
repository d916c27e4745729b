-- fill_under_black: the tints are those of the whole plate.
use Rattle.keep_pages.specs.declared.uses.KeepUse.TheVariants.{UnderBlack}
use Rattle.keep_pages.proofs.PageLemmas.{kept_list}
use Rattle.keep_pages.proofs.planes.fill_under_black.Goals as goal

pub returns : goal.returns
returns c = kept_list c.args.page.now (UnderBlack c.args.rich.now) c.args.c c.draw_plate.new.out c.draw_plate.ensures
