-- What is made of a page.
use Rattle.page_model.specs.declared.parts.PageParts.{PageParts}
use Rattle.trap_pool.specs.declared.traps.Traps.{Traps}
use Rattle.trap_pool.specs.Replies.{IsReport, IsTrapOf}

-- the new tints, the counts and the report of the page
pub record IsTrapsOf (page : PageParts) (traps : Traps) : Type 0 where
  pub trap : IsTrapOf page traps.trapped
  pub ready : IsReport page traps.trapped.planes traps.report
