-- answer_open_halo: an open job is in range.
use Rattle.job_reader.proofs.JobRanges.{job_of-in_range}
use Rattle.trap_c.proofs.opened.answer_open_halo.Goals as goal

pub halo_of-requires : goal.halo_of-requires
halo_of-requires c = job_of-in_range c.deref.result.now.bytes.items c.deref.result.now.job c.deref.result.now.read
