-- plan_law: spans of the columns and of the rows of a sheet, by rulers for it, make tiles, small
-- enough for pages where the rulers are, and together a tiling.
use Rattle.sheet_geometry.proofs.PlanLemmas.{plan_law}
use Rattle.sheet_geometry.proofs.laws.plan_law.Goals as goal

pub returns : goal.returns
returns c = plan_law
