-- fill_zones: writes the zone of each sample, row by row.
use Rattle.strip_engine.proofs.ZoneRows.{some_width, whole_zones}
use Rattle.engine_tests.proofs.zones.fill_zones.Goals as goal

pub returns : goal.returns
returns c = whole_zones c.args.page.now c.height-count.result c.make_zones.new.out (some_width c.args.page.now c.height-count.ensures.valid) c.height-count.ensures.value c.make_zones.ensures.zones
