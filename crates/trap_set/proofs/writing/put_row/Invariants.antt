-- The loops of put_row: puts the lines of the runs of a row.
use Rattle.std.proofs.Common.{Ok, ◌-◌, ◌≤◌}
use Rattle.outside.specs.declared.tray.DeviceError.{DeviceError}
use Rattle.trap_set.specs.Holding.{Puts}
use Rattle.trap_set.specs.Rows.{row_text}
use Rattle.trap_set.proofs.writing.put_row.Given as goal

abbrev pub invariant-loop-x : goal.invariant-loop-x
invariant-loop-x g l = (l.x ≤ l.width) × Puts {T = Unit {0}} {E = DeviceError} (row_text l.old l.new l.y l.x) l.initial.stored.items l.stored.items (g.R.Rack.state l.initial.rack) (g.R.Rack.state l.rack) (Ok tt)

abbrev pub decreases-loop-x : goal.decreases-loop-x
decreases-loop-x g l = l.width - l.x
