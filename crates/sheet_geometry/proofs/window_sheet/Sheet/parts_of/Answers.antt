-- Sheet::parts_of: what a window of it is made of.
use Rattle.std.proofs.lemmas.Grind.{common_steps}
use Rattle.std.proofs.Common.{arith, ◌∙◌, ap}
use Rattle.page_model.specs.declared.parts.PageParts.{PageParts}
use Rattle.sheet_geometry.proofs.Covering.{covered}
use Rattle.sheet_geometry.proofs.window_sheet.Sheet.parts_of.Goals as goal

pub planes_of-requires : goal.planes_of-requires
planes_of-requires c = record { covers = covered c.args.self.now c.args.cut.now c.as_slice.result.now c.width-wide.result c.width-wide.ensures.valid c.requires.cut (c.as_slice.ensures ∙ ap (λ (s : PageParts). s.planes) c.self.view_is) c.width-wide.ensures.value }

pub same-result : goal.same-result
same-result c = grind (arith, common_steps)

pub zones_of-requires-clause-vertices : goal.zones_of-requires-clause-vertices
zones_of-requires-clause-vertices c = grind (arith, common_steps)
