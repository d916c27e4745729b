-- The loops of put_rows: puts the lines of all runs.
use Rattle.std.proofs.Common.{Ok}
use Rattle.outside.specs.declared.tray.DeviceError.{DeviceError}
use Rattle.trap_set.specs.Holding.{Puts}
use Rattle.trap_set.specs.Rows.{rows_text}
use Rattle.trap_set.proofs.writing.put_rows.Given as goal

abbrev pub invariant-loop-y : goal.invariant-loop-y
invariant-loop-y g l = Puts {T = Unit {0}} {E = DeviceError} (rows_text l.old l.new l.y) l.initial.stored.items l.stored.items (g.R.Rack.state l.initial.rack) (g.R.Rack.state l.rack) (Ok tt)
