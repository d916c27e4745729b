-- fill_zones: writes the zone of each sample, row by row.
use Rattle.std.proofs.Common.{arith}
use Rattle.std.proofs.lemmas.Grind.{common_steps}
use Rattle.strip_engine.proofs.ZoneRows.{some_width, whole_zones}
use Rattle.strip_engine.proofs.zones.fill_zones.Goals as goal

pub returns-clause-zones : goal.returns-clause-zones
returns-clause-zones c = whole_zones c.args.page.now c.height-count.result c.make_zones.new.out (some_width c.args.page.now c.height-count.ensures.valid) c.height-count.ensures.value c.make_zones.ensures.zones

pub make_zones-requires-clause-out : goal.make_zones-requires-clause-out
make_zones-requires-clause-out c = grind (arith, common_steps)
