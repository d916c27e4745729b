-- How far the loops of `go_on` have come.
use Rattle.std.proofs.Common.{◌≡◌, ◌-◌, length, map}
use Rattle.sheet_stream.specs.Courses.{AwaitsCore, Course}
use Rattle.sheet_stream.specs.Going.{IsProgress, IsStripRow, gone_on}
use Rattle.sheet_stream.specs.Workspaces.{IsStreamWorkspace}
use Rattle.sheet_stream.specs.Waiting.{IsWaiting}
use Rattle.sheet_engine.specs.declared.counts.SheetCounts.{SheetCounts}
use Rattle.sheet_stream.proofs.strips.go_on.Given as goal

abbrev pub invariant-loop-progress : goal.invariant-loop-progress
invariant-loop-progress g l = record {
  trays_same : length l.trays ≡ length l.fn.trays;
  racks_same : length l.racks ≡ length l.fn.racks;
  hand : IsStripRow l.sheet.plan.now.down l.row;
  progress_is : l.progress ≡ gone_on l.row;
  progress_valid : IsProgress l.sheet.plan.now.down l.progress;
  workspace_is : IsStreamWorkspace l.sheet.outline.now l.sheet.plan.now l.workspace;
  waiting : IsWaiting l.sheet.plan.now l.last l.workspace.ahead l.workspace.core;
  awaits : (course : Course) (none : SheetCounts) → AwaitsCore course l.sheet.outline.now l.sheet.plan.now l.sheet.plates.now none l.first l.second (map g.T.Tray.state l.fn.trays) (map g.R.Rack.state l.fn.racks) l.fn.workspace
      → AwaitsCore course l.sheet.outline.now l.sheet.plan.now l.sheet.plates.now none l.last l.row (map g.T.Tray.state l.trays) (map g.R.Rack.state l.racks) l.workspace;
}

abbrev pub decreases-loop-progress : goal.decreases-loop-progress
decreases-loop-progress g l = l.sheet.plan.now.down.side - l.progress.at
