-- job_is_of_what_is_in_force: a job that is read is of what is in force at its first `showpage`.
use Rattle.job_laws.proofs.Ends.{job-in_force}
use Rattle.job_laws.proofs.laws.job_is_of_what_is_in_force.Goals as goal

pub returns : goal.returns
returns c = job-in_force
