-- apply_set: applies the set of the file of that name to the planes, run by run, and takes no
-- memory.
use Rattle.std.proofs.lemmas.Grind.{common_steps}
use Rattle.std.proofs.Common.{arith}
use Rattle.trap_set.proofs.StandLemmas.{begun_applied, begin_failed}
use Rattle.trap_set.proofs.apply.apply_set.Goals as goal

pub returns-in-Ok : goal.returns-in-Ok
returns-in-Ok g c = begun_applied c.args.name.now (g.T.Tray.state c.args.tray.now) (g.T.Tray.state c.begin.new.self) (g.T.Tray.state c.apply_text.new.tray) c.in-Ok.field-0 c.args.planes.now c.apply_text.new.planes c.apply_text.result c.in-Ok.ensures c.apply_text.ensures

pub returns-in-Err : goal.returns-in-Err
returns-in-Err g c = begin_failed c.args.name.now (g.T.Tray.state c.args.tray.now) (g.T.Tray.state c.begin.new.self) c.in-Err.field-0 c.args.planes.now c.in-Err.ensures

pub apply_text-requires-clause-full : goal.apply_text-requires-clause-full
apply_text-requires-clause-full g c = grind (arith, common_steps)
