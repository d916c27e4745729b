-- The loops of put_tints: puts a sample's tints.
use Rattle.std.proofs.Common.{ℕ, Ok}
use Rattle.std.specs.List.{flat_map}
use Rattle.lists.specs.Words.{list_below}
use Rattle.outside.specs.declared.tray.DeviceError.{DeviceError}
use Rattle.trap_set.specs.Holding.{Puts}
use Rattle.trap_set.specs.Runs.{tint_at}
use Rattle.trap_set.specs.SetText.{number}
use Rattle.trap_set.proofs.writing.put_tints.Given as goal

abbrev pub invariant-loop-c : goal.invariant-loop-c
invariant-loop-c g l = Puts {T = Unit {0}} {E = DeviceError} (flat_map number (list_below (λ (c : ℕ). tint_at l.planes c l.x l.y) l.c)) l.initial.stored.items l.stored.items (g.R.Rack.state l.initial.rack) (g.R.Rack.state l.rack) (Ok tt)
