-- The loops of zone_row_near: writes the zone of each sample of row y, from the left.
use Rattle.std.proofs.Common.{◌≡◌, ◌<◌, ◌-◌, ◌+◌, ℕ, length}
use Rattle.std.specs.Prelude.{slice_index, sum}
use Rattle.page_model.specs.Page.{width}
use Rattle.page_model.specs.Zones.{greatest_cover}
use Rattle.zone_map.proofs.row.zone_row_near.Given as goal

abbrev pub invariant-loop-n : goal.invariant-loop-n
invariant-loop-n l = record {
  end : l.n-end ≡ length l.page.zones - 1;
  out : length l.out ≡ width l.page;
  ups : length l.ups ≡ width l.page + 1;
  downs : length l.downs ≡ width l.page + 1;
  no_ups : sum l.ups ≡ 0;
  no_downs : sum l.downs ≡ 0;
  done : (x : ℕ) → x < width l.page → slice_index l.out x ≡ greatest_cover l.page (record { x = x; y = l.y }) l.n;
}
