-- fill_marks: writes the marks of all samples, row by row.
use Rattle.std.proofs.Common.{arith}
use Rattle.std.proofs.lemmas.Grind.{common_steps}
use Rattle.strip_engine.proofs.ZoneRows.{all_zones, some_width, whole_marks}
use Rattle.strip_engine.proofs.marks.fill_marks.Goals as goal

pub make_marks-requires-clause-zones : goal.make_marks-requires-clause-zones
make_marks-requires-clause-zones c = all_zones c.args.page.now c.height.result c.args.zones.now c.height.ensures.value c.requires.zones

pub returns : goal.returns
returns c = whole_marks c.args.page.now c.height.result c.make_marks.new.out (some_width c.args.page.now c.height.ensures.valid) c.height.ensures.value c.make_marks.ensures.marks

pub make_marks-requires-clause-out : goal.make_marks-requires-clause-out
make_marks-requires-clause-out c = grind (arith, common_steps)
