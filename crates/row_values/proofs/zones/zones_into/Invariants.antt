-- How far the loops of `zones_into` have come.
use Rattle.std.proofs.Common.{◌≡◌, ◌+◌, ◌*◌, ◌<◌, ℕ, length, slice_index}
use Rattle.page_model.specs.Page.{width}
use Rattle.row_values.specs.Rows.{zone_value}
use Rattle.zone_map.specs.Extents.{SpansZones}
use Rattle.row_values.proofs.zones.zones_into.Given as goal

abbrev pub invariant-loop-k : goal.invariant-loop-k
invariant-loop-k l = record {
  end : l.k-end ≡ l.rows.count;
  long : length l.out ≡ l.rows.count * width l.page;
  spans : l.spans ≡ l.initial.spans;
  extents : SpansZones l.page l.extents;
  done : (j o : ℕ) → j < l.k → o < width l.page → slice_index l.out (j * width l.page + o) ≡ zone_value l.page (l.rows.first + j) o;
}
