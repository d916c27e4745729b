-- trap_window_in: traps the window of a strip in its room.
use Rattle.std.proofs.Common.{◌+◌, ◌*◌, ap, sym, subst, ◌∙◌, Some, arith}
use Rattle.page_model.specs.declared.parts.PageParts.{PageParts}
use Rattle.page_tally.specs.Shapes.{Shape}
use Rattle.sheet_geometry.specs.declared.cuts.Cut.{Cut}
use Rattle.sheet_geometry.specs.Plans.{tile_of}
use Rattle.sheet_geometry.specs.Sheets.{IsSmall}
use Rattle.sheet_geometry.specs.Windows.{IsCut, window}
use Rattle.sheet_geometry.proofs.PlanLemmas.{plan_law}
use Rattle.strip_engine.specs.Workspaces.{IsWorkspaceFor}
use Rattle.std.proofs.lemmas.Grind.{common_steps}
use Rattle.sheet_engine.proofs.Adding.{workspaces_same}
use Rattle.sheet_engine.proofs.WorkspaceLemmas.{form_is, grown_counts, none_counts, plates_many, shape_is, trapped_is, zones_many}
use Rattle.sheet_engine.proofs.WorkLemmas.{window_workspace}
use Rattle.sheet_engine.specs.Growth.{HasWorkspaces}
use Rattle.sheet_geometry.specs.Forms.{form_of}
use Rattle.sheet_engine.proofs.workspace.trap_window_in.Goals as goal
use Rattle.page_model.specs.Columns.{halo}
use Rattle.page_model.specs.Reach.{page_reach}

pub refill-page-requires-clause-cut : goal.refill-page-requires-clause-cut
refill-page-requires-clause-cut c =
    let valid = c.width-valid.ensures.valid in
    let column = c.args.window.now.column in
    let plan = plan_law (halo (page_reach c.args.sheet.now)) c.args.sheet.now c.args.across.now c.args.down.now valid.ranges.parts.some_plates valid.ranges.parts.some_zones c.requires.rulers in
    subst (IsCut c.args.sheet.now) (sym c.cut_of-cut.ensures) (plan.tiles (column.from + column.skip) c.args.at column c.args.row.now c.requires.column c.requires.row).cut

pub refill-page-requires-clause-small : goal.refill-page-requires-clause-small
refill-page-requires-clause-small c =
    let valid = c.width-valid.ensures.valid in
    let column = c.args.window.now.column in
    let plan = plan_law (halo (page_reach c.args.sheet.now)) c.args.sheet.now c.args.across.now c.args.down.now valid.ranges.parts.some_plates valid.ranges.parts.some_zones c.requires.rulers in
    subst (IsSmall c.args.sheet.now) (sym c.cut_of-cut.ensures) (plan.small (column.from + column.skip) c.args.at column c.args.row.now c.requires.column c.requires.row c.requires.small)

pub clear-requires-clause-zone_samples : goal.clear-requires-clause-zone_samples
clear-requires-clause-zone_samples c = c.requires.workspace.counts.zone_samples ∙ zones_many c.args.sheet.now

pub clear-requires-clause-zone_changed : goal.clear-requires-clause-zone_changed
clear-requires-clause-zone_changed c = c.requires.workspace.counts.zone_changed ∙ zones_many c.args.sheet.now

pub clear-requires-clause-plate_changed : goal.clear-requires-clause-plate_changed
clear-requires-clause-plate_changed c = c.requires.workspace.counts.plate_changed ∙ plates_many c.args.sheet.now

pub trap_tile_in-requires-clause-shape : goal.trap_tile_in-requires-clause-shape
trap_tile_in-requires-clause-shape c =
    let valid = c.width-valid.ensures.valid in
    let sheet = c.args.sheet.now in
    let column = c.args.window.now.column in
    let row = c.args.row.now in
    let plan = plan_law (halo (page_reach sheet)) sheet c.args.across.now c.args.down.now valid.ranges.parts.some_plates valid.ranges.parts.some_zones c.requires.rulers in
    let cut = (plan.tiles (column.from + column.skip) c.args.at column row c.requires.column c.requires.row).cut in
    let e = c.refill-page.ensures ∙ ap (window sheet) c.cut_of-cut.ensures in
    subst (λ (s : Shape). IsWorkspaceFor s c.args.window.now.workspace) (sym (shape_is sheet row column c.refill-page.result cut e)) c.requires.workspace.workspace

pub trap_tile_in-requires-clause-workspace : goal.trap_tile_in-requires-clause-workspace
trap_tile_in-requires-clause-workspace c =
    let valid = c.width-valid.ensures.valid in
    let sheet = c.args.sheet.now in
    let column = c.args.window.now.column in
    let row = c.args.row.now in
    let e = c.refill-page.ensures ∙ ap (window sheet) c.cut_of-cut.ensures in
    subst (λ (p : PageParts). HasWorkspaces p (column.core * row.core) c.clear.new.counts) (sym e)
    (workspaces_same sheet (tile_of column row).cut (column.core * row.core) c.clear.new.counts
    (window_workspace sheet c.args.across.now c.args.down.now (column.from + column.skip) c.args.at column row c.clear.new.counts valid.narrow valid.low c.requires.rulers.wide c.requires.rulers.tall c.requires.column c.requires.row c.clear.ensures))

pub returns-in-Some-clause-trapped : goal.returns-in-Some-clause-trapped
returns-in-Some-clause-trapped c =
    let valid = c.width-valid.ensures.valid in
    let sheet = c.args.sheet.now in
    let column = c.args.window.now.column in
    let row = c.args.row.now in
    let page = c.refill-page.result in
    let plan = plan_law (halo (page_reach sheet)) sheet c.args.across.now c.args.down.now valid.ranges.parts.some_plates valid.ranges.parts.some_zones c.requires.rulers in
    let tile = plan.tiles (column.from + column.skip) c.args.at column row c.requires.column c.requires.row in
    let e = c.refill-page.ensures ∙ ap (window sheet) c.cut_of-cut.ensures in
    trapped_is sheet row c.args.at page c.clear.new.counts (record { alloc = c.args.window.now.alloc; column = column; page = Some page; workspace = c.trap_tile_in.new.workspace; counts = c.trap_tile_in.new.counts }) tile e c.clear.ensures c.trap_tile_in.ensures.planes c.trap_tile_in.ensures.counts
    (record {
      page = form_is sheet row column page tile.cut e;
      workspace = subst (λ (s : Shape). IsWorkspaceFor s c.trap_tile_in.new.workspace) (shape_is sheet row column page tile.cut e) c.trap_tile_in.ensures.shape;
      counts = grown_counts (form_of sheet) page column.skip row.skip column.core row.core c.clear.new.counts c.trap_tile_in.new.counts (none_counts sheet c.clear.new.counts c.clear.ensures) c.trap_tile_in.ensures.counts;
    })

pub refill-page-requires-clause-form : goal.refill-page-requires-clause-form
refill-page-requires-clause-form c = let has = rw (sym c.take.ensures.value ∙ c.in-Some.is) at c.requires.workspace.page in has.form_is

pub refill-page-requires-clause-wide : goal.refill-page-requires-clause-wide
refill-page-requires-clause-wide c = let has = rw (sym c.take.ensures.value ∙ c.in-Some.is) at c.requires.workspace.page in has.wide ∙ sym (ap (λ (it : Cut). it.width) c.cut_of-cut.ensures)

pub refill-page-requires-clause-tall : goal.refill-page-requires-clause-tall
refill-page-requires-clause-tall c = let has = rw (sym c.take.ensures.value ∙ c.in-Some.is) at c.requires.workspace.page in has.height_is ∙ sym (ap (λ (it : Cut). it.height) c.cut_of-cut.ensures)

pub returns-in_default-clause-trapped : goal.returns-in_default-clause-trapped
returns-in_default-clause-trapped c = let has = rw (sym c.take.ensures.value ∙ c.in_default.is) at c.requires.workspace.page in absurd has

pub trap_tile_in-requires-clause-core : goal.trap_tile_in-requires-clause-core
trap_tile_in-requires-clause-core c = grind (arith, common_steps)
