-- write_row: the width of an underprint reaches as far as it may.
use Rattle.std.proofs.Common.{List, sym, subst, ◌∙◌}
use Rattle.std.specs.List.{All}
use Rattle.underprint.specs.declared.parts.White.{White}
use Rattle.underprint.specs.Lists.{Reaches}
use Rattle.underprint.proofs.UnderLemmas.{reaches_in}
use Rattle.underprint.proofs.plate.write_row.Goals as goal

pub draw_page_row-requires-clause-reach : goal.draw_page_row-requires-clause-reach
draw_page_row-requires-clause-reach c = reaches_in c.args.page.now c.as_slice.result.now c.as_slice-2.result.now c.in-Some.wide
    (subst (λ (whites : List White). All (λ (white : White). Reaches c.args.page.now white.width) whites) (sym c.as_slice.ensures) c.requires.reach)
    (sym c.width_in.ensures.value ∙ c.in-Some.is)
