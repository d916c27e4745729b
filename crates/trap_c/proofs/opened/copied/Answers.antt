-- copied: an open job is in range.
use Rattle.job_reader.proofs.JobRanges.{job_of-in_range}
use Rattle.trap_c.proofs.opened.copied.Goals as goal

pub copy_of-requires : goal.copy_of-requires
copy_of-requires c = job_of-in_range c.args.stored.now.bytes.items c.args.stored.now.job c.args.stored.now.read
