-- fill_marks: writes the marks of each sample, row by row.
use Rattle.strip_engine.proofs.ZoneRows.{all_zones}
use Rattle.engine_tests.proofs.zones.fill_marks.Goals as goal

pub make_marks-requires-clause-zones : goal.make_marks-requires-clause-zones
make_marks-requires-clause-zones c = all_zones c.args.page.now c.height.result c.args.zones.now c.height.ensures.value c.requires.zones
