-- An outcome into which the new tints of rows are put without counting them.
use Rattle.std.specs.Prelude.{ℕ, ◌*◌}
use Rattle.page_model.specs.declared.parts.PageParts.{PageParts}
use Rattle.page_model.specs.Page.{width}
use Rattle.page_tally.specs.declared.outcome.Outcome.{Outcome}
use Rattle.page_tally.specs.Shapes.{HasShape, shape_of}
use Rattle.page_tally.specs.Standing.{AreTrappedTo}

-- the new tints of the first rows of the page are put in; the counts may be any
pub record HasTints (page : PageParts) (rows : ℕ) (outcome : Outcome) : Type 0 where
  pub shape : HasShape (shape_of page) outcome
  pub planes : AreTrappedTo page outcome.planes (rows * width page)
