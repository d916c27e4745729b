use Rattle.std.proofs.Common.{◌≡◌}
use Rattle.page_model.specs.Page.{width}
use Rattle.page_model.specs.Zones.{zone_of}
use Rattle.keepaway.specs.Rows.{HasRows}
use Rattle.keepaway.proofs.cover.fill_zones.Given as goal

abbrev pub invariant-loop-y : goal.invariant-loop-y
invariant-loop-y l = record {
  rows : HasRows l.page (zone_of l.page) l.y l.zones;
  wide : l.spans.wide ≡ width l.page;
}
