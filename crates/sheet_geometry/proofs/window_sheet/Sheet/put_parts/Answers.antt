-- Sheet::put_parts: what a window is made of, in the place of the parts of such a page.
use Rattle.std.proofs.lemmas.Grind.{common_steps}
use Rattle.std.proofs.Common.{arith, ◌∙◌, ap, length, sym}
use Rattle.std.specs.Prelude.{map}
use Rattle.page_model.specs.declared.parts.PageParts.{PageParts}
use Rattle.sheet_geometry.specs.Windows.{moved_zone, shown_plane}
use Rattle.sheet_geometry.specs.Forms.{zone_form}
use Rattle.sheet_geometry.proofs.Covering.{covered}
use Rattle.sheet_geometry.proofs.FormLemmas.{form_deep, form_inks, form_zones, window_made}
use Rattle.sheet_geometry.proofs.window_sheet.Sheet.put_parts.Goals as goal

pub show_planes-requires-clause-covers : goal.show_planes-requires-clause-covers
show_planes-requires-clause-covers c = covered c.args.self.now c.args.cut.now c.as_slice-planes.result.now c.width-wide.result c.width-wide.ensures.valid c.requires.cut (c.as_slice-planes.ensures ∙ ap (λ (s : PageParts). s.planes) c.self.view_is) c.width-wide.ensures.value

pub show_planes-requires-clause-count : goal.show_planes-requires-clause-count
show_planes-requires-clause-count c = form_deep c.args.parts c.args.self.now c.requires.form ∙ sym (ap length (c.as_slice-planes.ensures ∙ ap (λ (s : PageParts). s.planes) c.self.view_is))

pub move_zones-requires-clause-form : goal.move_zones-requires-clause-form
move_zones-requires-clause-form c = form_zones c.args.parts c.args.self.now c.requires.form ∙ sym (ap (map zone_form) (c.as_slice.ensures ∙ ap (λ (s : PageParts). s.zones) c.self.view_is))

pub returns : goal.returns
returns c =
    let planes = c.as_slice-planes.ensures ∙ ap (λ (s : PageParts). s.planes) c.self.view_is in
    let zones = c.as_slice.ensures ∙ ap (λ (s : PageParts). s.zones) c.self.view_is in
    window_made c.args.self.now c.args.cut.now c.self.inside.parts.resolution c.show_planes.new.shown c.args.parts.inks c.move_zones.new.moved
    (ap (λ (s : PageParts). s.resolution) c.self.view_is)
    (c.show_planes.ensures ∙ (λ i. map (shown_plane (c.width-wide.ensures.value i) c.args.cut.now) (planes i)))
    (form_inks c.args.parts c.args.self.now c.requires.form)
    (c.move_zones.ensures ∙ (λ i. map (moved_zone (c.corner_of-right.ensures.right i) (c.corner_of-right.ensures.up i)) (zones i)))

pub move_zones-requires-clause-vertices : goal.move_zones-requires-clause-vertices
move_zones-requires-clause-vertices c = grind (arith, common_steps)
