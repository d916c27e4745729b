-- The loops of put_numbers: puts a space and a number, for each of some.
use Rattle.std.proofs.Common.{take, Ok}
use Rattle.std.specs.List.{flat_map}
use Rattle.outside.specs.declared.tray.DeviceError.{DeviceError}
use Rattle.trap_set.specs.Holding.{Puts}
use Rattle.trap_set.specs.SetText.{number}
use Rattle.trap_set.proofs.writing.put_numbers.Given as goal

abbrev pub invariant-loop-n : goal.invariant-loop-n
invariant-loop-n g l = Puts {T = Unit {0}} {E = DeviceError} (flat_map number (take l.n-index l.numbers)) l.initial.stored.items l.stored.items (g.R.Rack.state l.initial.rack) (g.R.Rack.state l.rack) (Ok tt)
