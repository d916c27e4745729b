-- The loops of move_zones: moves zones into the places of zones of their form.
use Rattle.std.proofs.Common.{◌≡◌, ℕ, ◌<◌, ◌≤◌, length, take}
use Rattle.std.specs.Prelude.{map, slice_index_or}
use Rattle.page_model.specs.declared.parts.Zone.{Zone}
use Rattle.sheet_geometry.specs.Windows.{moved_zone}
use Rattle.sheet_geometry.specs.Forms.{zone_form}
use Rattle.sheet_geometry.proofs.refill.move_zones.Given as goal

abbrev pub invariant-loop-z : goal.invariant-loop-z
invariant-loop-z l = record {
  count : length l.moved ≡ length l.zones;
  done : take l.z l.moved ≡ map (moved_zone l.right l.up) (take l.z l.zones);
  rest : (j : ℕ) (d : Zone) → l.z ≤ j → j < length l.zones → zone_form (slice_index_or l.moved j d) ≡ zone_form (slice_index_or l.zones j d);
}
