-- read_job_file: reads the job of that name.
use Rattle.std.proofs.lemmas.Grind.{common_steps}
use Rattle.std.proofs.Common.{arith, subst, List, ℕ}
use Rattle.job_reader.specs.Jobs.{job_of}
use Rattle.ps_tokens.specs.Tokens.{Gives}
use Rattle.page_files.proofs.JobLemmas.{job_judged}
use Rattle.page_files.proofs.job.read_job_file.Goals as goal

pub returns-in-Ok : goal.returns-in-Ok
returns-in-Ok g c =
    let read = c.in-Ok.ensures in
    job_judged c.args.name.now (g.T.Tray.state c.args.tray.now) (g.T.Tray.state c.read_file.new.tray) c.in-Ok.bytes c.read_job.result c.job_or_error.result read.keeps read.asked read.taken read.few read.well
    (subst (λ (b : List ℕ). Gives c.read_job.result (job_of b)) c.as_slice.ensures c.read_job.ensures.given) c.read_job.ensures.in_range c.job_or_error.ensures

pub returns-in-Err-OutOfMemory : goal.returns-in-Err-OutOfMemory
returns-in-Err-OutOfMemory g c = grind (arith, common_steps)
