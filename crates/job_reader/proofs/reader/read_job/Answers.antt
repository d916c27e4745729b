-- read_job: the job that bytes spell, in this project's job language.
use Rattle.job_reader.proofs.JobRanges.{tokens_given-in_range}
use Rattle.job_reader.proofs.reader.read_job.Goals as goal

pub returns-else-bytes-gt-LONGEST_JOB-clause-in_range :
    goal.returns-else-bytes-gt-LONGEST_JOB-clause-in_range
returns-else-bytes-gt-LONGEST_JOB-clause-in_range c = tokens_given-in_range c.args.bytes.now c.read_tokens.result c.read_tokens.ensures
