-- run_sample: traps a sample page and tells its report, and gives how the command ends.
use Rattle.std.proofs.Common.{◌∙◌}
use Rattle.trap_cli.specs.Stored.{sample_in}
use Rattle.trap_cli.proofs.SampleLemmas.{reported_a_part, reported_whole}
use Rattle.trap_cli.proofs.sample.run_sample.Goals as goal

pub returns-in-Err-tell : goal.returns-in-Err-tell
returns-in-Err-tell g c = reported_a_part (sample_in c.args.command) c.as_slice.result.now (g.R.Rack.state c.args.rack.now) (g.R.Rack.state c.tell.new.self) c.in-Err-tell.field-0 c.in-Ok.ensures.0 (c.as_slice.ensures ∙ c.in-Ok.ensures.1) c.in-Err-tell.ensures

pub returns-in-Ok-tell : goal.returns-in-Ok-tell
returns-in-Ok-tell g c = reported_whole (sample_in c.args.command) c.as_slice.result.now (g.R.Rack.state c.args.rack.now) (g.R.Rack.state c.tell.new.self) c.in-Ok.outcome.receipt c.in-Ok-tell.field-0 c.in-Ok.ensures.0 (c.as_slice.ensures ∙ c.in-Ok.ensures.1) c.in-Ok.ensures.2 c.in-Ok-tell.ensures
