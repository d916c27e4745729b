-- fill_zones: one more row is put into the list.
use Rattle.page_model.specs.Zones.{zone_of}
use Rattle.std.proofs.Common.{ap, ◌∙◌}
use Rattle.zone_map.specs.Workspace.{Workspace}
use Rattle.keepaway.proofs.RowLemmas.{rows_next}
use Rattle.keepaway.proofs.cover.fill_zones.Goals as goal

pub loop-y-preserved : goal.loop-y-preserved
loop-y-preserved c = record { rows = rows_next c.args.page.now (zone_of c.args.page.now) c.loop-y.y c.loop-y.zones c.put_row.new.list c.zone_row.new.out c.loop-y.invariant.rows (record { long = c.zone_row.ensures.zones.wide; each = c.zone_row.ensures.zones.each }) c.put_row.ensures.there c.put_row.ensures.above c.put_row.ensures.long; wide = ap (λ (r : Workspace). r.wide) c.zone_row.ensures.spans ∙ c.loop-y.invariant.wide }
