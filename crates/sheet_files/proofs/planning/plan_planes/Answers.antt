-- plan_planes: the sheet of planes without tints, none of which lacks its details.
use Rattle.std.proofs.Common.{◌<◌, ◌^◌, sym, subst}
use Rattle.page_model.specs.declared.parts.PageParts.{PageParts}
use Rattle.page_model.specs.Page.{height, width}
use Rattle.sheet_files.specs.Planning.{PlansParts}
use Rattle.sheet_geometry.specs.Outline.{IsOutlineParts}
use Rattle.sheet_files.proofs.PlanLemmas.{is_outline_parts, low_is, narrow_is}
use Rattle.sheet_files.proofs.planning.plan_planes.Goals as goal

pub plan_parts-requires-clause-outline : goal.plan_parts-requires-clause-outline
plan_parts-requires-clause-outline c = subst IsOutlineParts (sym c.in-Ok.ensures) (is_outline_parts c.args.job c.args.planes c.args.names.now c.requires.job c.requires.planes)

pub plan_parts-requires-clause-narrow : goal.plan_parts-requires-clause-narrow
plan_parts-requires-clause-narrow c = subst (λ (s : PageParts). width s < 2 ^ 30) (sym c.in-Ok.ensures) (narrow_is c.args.planes c.args.names.now c.requires.planes)

pub plan_parts-requires-clause-low : goal.plan_parts-requires-clause-low
plan_parts-requires-clause-low c = subst (λ (s : PageParts). height s < 2 ^ 30) (sym c.in-Ok.ensures) (low_is c.args.planes c.args.names.now c.requires.planes)

pub returns-in-Ok : goal.returns-in-Ok
returns-in-Ok c = subst (λ (s : PageParts). PlansParts c.args.budget.now s c.plan_parts.result) c.in-Ok.ensures c.plan_parts.ensures
