-- fill_under_colour: the tints are those of the whole plate.
use Rattle.keep_pages.specs.declared.uses.KeepUse.TheVariants.{UnderColour}
use Rattle.keep_pages.proofs.PageLemmas.{kept_list}
use Rattle.keep_pages.proofs.planes.fill_under_colour.Goals as goal

pub returns : goal.returns
returns c = kept_list c.args.page.now (UnderColour c.args.whites.now) c.args.c c.draw_plate.new.out c.draw_plate.ensures
