-- cover_near: a path whose heights leave out a row covers none of its samples.
use Rattle.std.proofs.Common.{◌≡◌, ◌∙◌, sym, refl, false}
use Rattle.std.specs.Prelude.{◌&&◌, int_le, int_lt}
use Rattle.page_model.specs.declared.parts.At.{At}
use Rattle.page_model.specs.Page.{path_at}
use Rattle.page_model.specs.Zones.{centre}
use Rattle.zone_map.proofs.CoverLemmas.{uncovered}
use Rattle.zone_map.proofs.ExtentLemmas.{winding-off}
use Rattle.zone_map.proofs.Widths.{near_64}
use Rattle.zone_map.proofs.row.cover_near.Goals as goal

pub returns-else-meets-clause-each : goal.returns-else-meets-clause-each
returns-else-meets-clause-each c = λ x l.
    let page = c.args.page.now in
    let p : At = record { x = x; y = c.args.y } in
    let height = near_64 c.middle_of_row.result c.middle_of_row.ensures.near ∙ c.middle_of_row.ensures.value in
    let off : (int_le c.args.extent.low (centre page p).py && int_lt (centre page p).py c.args.extent.high) ≡ false = rw height at (sym c.meets.ensures ∙ c.if-meets.false) in
    rw (uncovered page p c.args.z (winding-off page.resolution (centre page p) c.args.extent off (path_at page c.args.z) c.requires.spans)) refl
