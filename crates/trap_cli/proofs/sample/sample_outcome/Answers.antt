-- What `sample_outcome` has to show.
use Rattle.trap_cli.specs.Stored.{sample_in}
use Rattle.trap_cli.proofs.SampleLemmas.{is_small, report_made}
use Rattle.trap_cli.proofs.sample.sample_outcome.Goals as goal

pub returns-in-Ok : goal.returns-in-Ok
returns-in-Ok g c = report_made (sample_in c.args.command) c.in-Ok.page c.page_outcome.result (is_small (sample_in c.args.command) (λ large. let e = c.in-Ok.ensures.too_many.1 large in absurd cc)) c.in-Ok.ensures.page c.page_outcome.ensures
