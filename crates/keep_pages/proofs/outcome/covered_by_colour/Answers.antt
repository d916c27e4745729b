-- covered_by_colour: marks that are not 0 are covered pixels.
use Rattle.std.proofs.Common.{length, ◌∙◌}
use Rattle.keep_pages.proofs.PageLemmas.{colour_covered}
use Rattle.keep_pages.proofs.outcome.covered_by_colour.Goals as goal

pub returns : goal.returns
returns c = c.count_covered.ensures ∙ colour_covered c.args.page.now c.args.whites.now (length c.args.marks.now) c.args.marks.now c.requires c.requires.long
