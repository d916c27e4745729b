-- window_room: room for a window of a strip.
use Rattle.std.proofs.Common.{◌+◌, ap, sym, subst, ◌∙◌}
use Rattle.page_tally.specs.Shapes.{Shape}
use Rattle.sheet_geometry.specs.Sheets.{IsSmall}
use Rattle.sheet_geometry.specs.Windows.{IsCut, window}
use Rattle.sheet_geometry.proofs.PlanLemmas.{plan_law}
use Rattle.strip_engine.specs.Workspaces.{IsWorkspaceFor}
use Rattle.sheet_engine.proofs.WorkspaceLemmas.{form_is, none_counts, shape_is}
use Rattle.sheet_engine.proofs.workspace.window_workspace.Goals as goal
use Rattle.page_model.specs.Columns.{halo}
use Rattle.page_model.specs.Reach.{page_reach}

pub window-requires-clause-cut : goal.window-requires-clause-cut
window-requires-clause-cut c =
    let valid = c.width-valid.ensures.valid in
    let column = c.args.column.now in
    let row = c.args.row.now in
    let plan = plan_law (halo (page_reach c.args.strip.now)) c.args.strip.now c.args.across.now c.args.down.now valid.ranges.parts.some_plates valid.ranges.parts.some_zones c.requires.rulers in
    subst (IsCut c.args.strip.now) (sym c.cut_of-cut.ensures) (plan.tiles (column.from + column.skip) (row.from + row.skip) column row c.requires.column c.requires.row).cut

pub window-requires-clause-small : goal.window-requires-clause-small
window-requires-clause-small c =
    let valid = c.width-valid.ensures.valid in
    let column = c.args.column.now in
    let row = c.args.row.now in
    let plan = plan_law (halo (page_reach c.args.strip.now)) c.args.strip.now c.args.across.now c.args.down.now valid.ranges.parts.some_plates valid.ranges.parts.some_zones c.requires.rulers in
    subst (IsSmall c.args.strip.now) (sym c.cut_of-cut.ensures) (plan.small (column.from + column.skip) (row.from + row.skip) column row c.requires.column c.requires.row c.requires.small)

pub returns-clause-workspace : goal.returns-clause-workspace
returns-clause-workspace c =
    let valid = c.width-valid.ensures.valid in
    let strip = c.args.strip.now in
    let column = c.args.column.now in
    let row = c.args.row.now in
    let plan = plan_law (halo (page_reach strip)) strip c.args.across.now c.args.down.now valid.ranges.parts.some_plates valid.ranges.parts.some_zones c.requires.rulers in
    let cut = (plan.tiles (column.from + column.skip) (row.from + row.skip) column row c.requires.column c.requires.row).cut in
    let e = c.in_ok-page.ensures ∙ ap (window strip) c.cut_of-cut.ensures in
    record {
      page = form_is strip row column c.in_ok-page.page cut e;
      workspace = subst (λ (s : Shape). IsWorkspaceFor s c.in_ok-workspace.workspace) (shape_is strip row column c.in_ok-page.page cut e) c.in_ok-workspace.ensures.workspace;
      counts = none_counts strip c.in_ok-counts.counts c.in_ok-counts.ensures;
    }
