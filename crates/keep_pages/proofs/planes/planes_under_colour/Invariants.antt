use Rattle.std.proofs.Common.{◌≡◌}
use Rattle.lists.specs.Words.{list_below}
use Rattle.keep_pages.specs.declared.uses.KeepUse.TheVariants.{UnderColour}
use Rattle.keep_pages.specs.KeptPages.{kept_plane}
use Rattle.keep_pages.proofs.planes.planes_under_colour.Given as goal

abbrev pub invariant-loop-c : goal.invariant-loop-c
invariant-loop-c l = l.planes ≡ list_below (kept_plane l.page (UnderColour l.whites)) l.c
