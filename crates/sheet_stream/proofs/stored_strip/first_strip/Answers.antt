-- first_strip: the strip of these rows of a sheet but its tints, whose planes have room for them.
use Rattle.std.proofs.lemmas.Grind.{common_steps}
use Rattle.std.proofs.Common.{◌≡◌, ◌+◌, ◌-◌, map, refl, sym, ap, ◌∙◌, arith}
use Rattle.std.proofs.lemmas.List.{get_or_default}
use Rattle.page_model.specs.declared.parts.Plane.{Plane}
use Rattle.page_model.specs.Page.{height}
use Rattle.page_model.specs.Planes.{no_plane}
use Rattle.sheet_stream.specs.StoredStrips.{blank_plane}
use Rattle.sheet_geometry.specs.Windows.{moved_zone, points_of}
use Rattle.sheet_stream.proofs.HoldLemmas.{blank_workspace, first_plane}
use Rattle.sheet_stream.proofs.stored_strip.first_strip.Goals as goal

pub returns-clause-strip : goal.returns-clause-strip
returns-clause-strip c =
    let outline = c.args.outline.now in
    let row = c.args.row.now in
    let first = first_plane outline c.as_slice-planes.result.now c.index-planes-0.result c.requires.outline.parts.some_plates c.as_slice-planes.ensures c.index-planes-0.is in
    let tall = sym c.index-planes-0.is ∙ first in
    let up : c.points-up.result ≡ points_of outline.resolution (height outline - (row.from + row.wide)) = c.points-up.ensures.value ∙ ap (λ (p : Plane). points_of outline.resolution (p.height - (row.from + row.wide))) tall in
    record {
      resolution = refl;
      inks = c.in_ok-inks_of.ensures ∙ c.as_slice-2.ensures;
      zones = c.in_ok-zones.ensures ∙ (λ i. map (moved_zone (c.points.ensures.value i) (up i)) (c.as_slice.ensures i));
      planes = blank_workspace outline row.wide c.in_ok-blank_planes.field-0 c.requires.outline (c.in_ok-blank_planes.ensures ∙ ap (map (blank_plane row.wide)) c.as_slice-planes.ensures);
    }

pub returns-clause-blank : goal.returns-clause-blank
returns-clause-blank c = c.in_ok-blank_planes.ensures ∙ ap (map (blank_plane c.args.row.now.wide)) c.as_slice-planes.ensures

pub blank_planes-requires-clause-narrow : goal.blank_planes-requires-clause-narrow
blank_planes-requires-clause-narrow c = rw c.as_slice-planes.ensures (λ k d l.
    (let same = ap (λ (plane : Plane). plane.width) (get_or_default c.args.outline.now.planes k d no_plane l) in
    let wide = (c.requires.outline.agree k l).wide in
    let narrow = c.requires.narrow in
    omega (arith, same, wide, narrow)))

pub overflow_sub-below : goal.overflow_sub-below
overflow_sub-below c = grind (arith, common_steps)

pub zones_of-requires-clause-vertices : goal.zones_of-requires-clause-vertices
zones_of-requires-clause-vertices c = grind (arith, common_steps)
