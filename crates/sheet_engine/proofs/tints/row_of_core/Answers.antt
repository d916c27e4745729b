-- row_of_core: row k of the new tints of plate c of a core.
use Rattle.std.proofs.Common.{◌≡◌, ℕ, ◌+◌, ◌*◌, ◌<◌, List, length, slice_index, ap, ◌∙◌, arith}
use Rattle.page_model.specs.declared.parts.Plane.{Plane}
use Rattle.page_model.specs.Page.{plates}
use Rattle.page_model.specs.Planes.{plane_at}
use Rattle.sheet_geometry.specs.Plans.{tile_of}
use Rattle.sheet_geometry.proofs.PlanLemmas.{plan_law}
use Rattle.sheet_engine.proofs.CoreRows.{plane_long, plane_read, planes_many, row_is, row_lies}
use Rattle.sheet_engine.proofs.tints.row_of_core.Goals as goal
use Rattle.page_model.specs.Columns.{halo}
use Rattle.page_model.specs.Reach.{page_reach}

pub bounds-planes-c : goal.bounds-planes-c
bounds-planes-c c =
    let valid = c.width-valid.ensures.valid in
    let sheet = c.args.sheet.now in
    let column = c.args.column.now in
    let row = c.args.row.now in
    let plan = plan_law (halo (page_reach sheet)) sheet c.args.across.now c.args.down.now valid.ranges.parts.some_plates valid.ranges.parts.some_zones c.requires.rulers in
    let tile = plan.tiles (column.from + column.skip) (row.from + row.skip) column row c.requires.column c.requires.row in
    let many : length c.args.planes.now ≡ plates sheet = planes_many (halo (page_reach sheet)) sheet (tile_of column row) tile.cut tile.core c.args.planes.now c.requires.planes in
    let plate = c.requires.plate in
    omega (arith, many, plate)

pub run_of-requires : goal.run_of-requires
run_of-requires c =
    let valid = c.width-valid.ensures.valid in
    let sheet = c.args.sheet.now in
    let column = c.args.column.now in
    let row = c.args.row.now in
    let plan = plan_law (halo (page_reach sheet)) sheet c.args.across.now c.args.down.now valid.ranges.parts.some_plates valid.ranges.parts.some_zones c.requires.rulers in
    let tile = plan.tiles (column.from + column.skip) (row.from + row.skip) column row c.requires.column c.requires.row in
    let many : length c.args.planes.now ≡ plates sheet = planes_many (halo (page_reach sheet)) sheet (tile_of column row) tile.cut tile.core c.args.planes.now c.requires.planes in
    let plate = c.requires.plate in
    let inside : c.args.c < length c.args.planes.now = omega (arith, many, plate) in
    let read = plane_read c.args.planes.now c.args.c c.index-planes-c.result inside in
    let long : length c.as_slice.result.now ≡ column.wide * row.wide = ap length c.as_slice.ensures ∙ ap (λ (plane : Plane). length plane.tints) read ∙ plane_long (halo (page_reach sheet)) sheet (tile_of column row) tile.cut tile.core c.args.planes.now c.requires.planes c.args.c plate in
    row_lies column.wide row.wide column.skip column.core row.skip row.core c.args.k (length c.as_slice.result.now) c.requires.column.core c.requires.row.core c.requires.line long

pub returns : goal.returns
returns c =
    let valid = c.width-valid.ensures.valid in
    let sheet = c.args.sheet.now in
    let column = c.args.column.now in
    let row = c.args.row.now in
    let plan = plan_law (halo (page_reach sheet)) sheet c.args.across.now c.args.down.now valid.ranges.parts.some_plates valid.ranges.parts.some_zones c.requires.rulers in
    let tile = plan.tiles (column.from + column.skip) (row.from + row.skip) column row c.requires.column c.requires.row in
    let many : length c.args.planes.now ≡ plates sheet = planes_many (halo (page_reach sheet)) sheet (tile_of column row) tile.cut tile.core c.args.planes.now c.requires.planes in
    let plate = c.requires.plate in
    let inside : c.args.c < length c.args.planes.now = omega (arith, many, plate) in
    let read = plane_read c.args.planes.now c.args.c c.index-planes-c.result inside in
    let tints : c.as_slice.result.now ≡ (plane_at c.args.planes.now c.args.c).tints = c.as_slice.ensures ∙ ap (λ (plane : Plane). plane.tints) read in
    row_is (halo (page_reach sheet)) sheet (tile_of column row) tile.cut tile.core c.args.planes.now c.requires.planes c.args.c c.args.k c.run_of.result.now plate c.requires.line c.run_of.ensures.len
    (λ x l. c.run_of.ensures.each x l ∙ ap (λ (xs : List ℕ). slice_index xs ((row.skip + c.args.k) * column.wide + column.skip + x)) tints)
