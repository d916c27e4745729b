-- write_set: writes the set of what changed between planes of one shape, as a file of that name.
use Rattle.std.proofs.lemmas.Grind.{common_steps}
use Rattle.std.proofs.Common.{arith}
use Rattle.outside.proofs.Steps.{created_then_filled}
use Rattle.trap_set.specs.SetText.{set_text}
use Rattle.trap_set.proofs.set.write_set.Goals as goal

pub returns : goal.returns
returns g c = created_then_filled c.args.name.now (set_text c.args.old.now c.args.new.now) (g.R.Rack.state c.args.rack.now) (g.R.Rack.state c.create.new.self) (g.R.Rack.state c.fill_set.new.rack) _ c.fill_set.result c.in_ok-create.ensures c.fill_set.ensures

pub returns-in_err-create : goal.returns-in_err-create
returns-in_err-create g c = grind (arith, common_steps)
