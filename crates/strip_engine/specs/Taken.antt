-- The rows of a page that are taken in, counted or not.
use Rattle.std.specs.Prelude.{◌≡◌, ℕ, Bool, true}
use Rattle.page_model.specs.declared.parts.PageParts.{PageParts}
use Rattle.page_tally.specs.declared.outcome.Outcome.{Outcome}
use Rattle.page_tally.specs.Standing.{HasRows}
use Rattle.page_tally.specs.Uncounted.{HasTints}

-- the new tints of the first rows are put in, and where rows are counted, all that is counted in
-- them as well
pub record IsTaken (page : PageParts) (rows : ℕ) (counted : Bool) (outcome : Outcome)
    : Type 0 where
  pub tints : HasTints page rows outcome
  pub counts : counted ≡ true → HasRows page rows outcome
