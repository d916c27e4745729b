-- zones_of_row: the zones of row y.
use Rattle.std.proofs.Common.{◌+◌, ◌∙◌, ap, arith, length}
use Rattle.strip_engine.proofs.WholeLemmas.{sample_zones-length}
use Rattle.strip_engine.proofs.ZoneRows.{rows_fit, zones_of_row-are}
use Rattle.strip_engine.proofs.marks.zones_of_row.Goals as goal

pub rows_between-requires-clause-inside : goal.rows_between-requires-clause-inside
rows_between-requires-clause-inside c = rows_fit c.args.page.now c.width.result c.args.y (c.args.y + 1) c.args.zones.now c.width.ensures.value (omega arith) (omega (arith, c.requires.row)) (ap length c.requires.zones ∙ sample_zones-length c.args.page.now)

pub returns : goal.returns
returns c = zones_of_row-are c.args.page.now c.width.result c.args.y c.args.zones.now c.rows_between.result.now c.width.ensures.value c.requires.row c.requires.zones c.rows_between.ensures
