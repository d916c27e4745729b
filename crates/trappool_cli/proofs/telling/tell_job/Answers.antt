-- tell_job: tells what is said of a job of the list, or a prefix of it where the rack has a fault.
use Rattle.std.proofs.lemmas.Result.{err_from_is_err_and}
use Rattle.std.proofs.Common.{◌∙◌}
use Rattle.trappool_cli.specs.Text.{job_name, said_text}
use Rattle.trappool_cli.proofs.TellingLemmas.{reported_part, reported_then}
use Rattle.trappool_cli.proofs.telling.tell_job.Goals as goal

pub returns : goal.returns
returns g c = reported_then c.as_slice.result.now (job_name c.args.number) (said_text c.args.said.now) (g.R.Rack.state c.args.rack.now) (g.R.Rack.state c.tell.new.self) (g.R.Rack.state c.tell_status.new.rack) c.in_ok-tell.field-0 c.tell_status.result (c.as_slice.ensures ∙ c.job_name.ensures) c.in_ok-tell.ensures c.tell_status.ensures

pub returns-in_err-tell : goal.returns-in_err-tell
returns-in_err-tell g c =
    let p = err_from_is_err_and c.from_residual.result c.from_residual.ensures.1 in
    rw p.1 (reported_part c.as_slice.result.now (job_name c.args.number) (said_text c.args.said.now) (g.R.Rack.state c.args.rack.now) (g.R.Rack.state c.tell.new.self) c.in_err-tell.field-0.0 (c.as_slice.ensures ∙ c.job_name.ensures) c.in_err-tell.ensures)
