-- read_jobs_are_in_range: each job that bytes spell is in range.
use Rattle.job_reader.proofs.JobRanges.{job_of-in_range}
use Rattle.job_reader.proofs.laws.read_jobs_are_in_range.Goals as goal

pub returns : goal.returns
returns c = job_of-in_range
