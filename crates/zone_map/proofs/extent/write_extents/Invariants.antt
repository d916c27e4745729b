-- How far the loop of write_extents has come.
use Rattle.std.proofs.Common.{◌≡◌, ◌<◌, ◌≤◌, ℕ, length}
use Rattle.std.specs.Prelude.{slice_index_or}
use Rattle.page_model.specs.Page.{path_at}
use Rattle.zone_map.specs.declared.extent.Extent.{Extent}
use Rattle.zone_map.specs.Extents.{IsLow, Spans}
use Rattle.zone_map.proofs.extent.write_extents.Given as goal

abbrev pub invariant-loop-z : goal.invariant-loop-z
invariant-loop-z l = record {
  end : l.z-end ≡ length l.page.zones;
  long : length l.page.zones ≤ length l.out;
  near : (k : ℕ) (d : Extent) → k < l.z → IsLow (slice_index_or l.out k d);
  each : (k : ℕ) (d : Extent) → k < l.z → Spans l.page.resolution (slice_index_or l.out k d) (path_at l.page k);
}
