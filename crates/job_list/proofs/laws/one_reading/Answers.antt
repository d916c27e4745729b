-- one_reading: bytes that are a list have no bad line.
use Rattle.job_list.proofs.Readings.{one_reading}
use Rattle.job_list.proofs.laws.one_reading.Goals as goal

pub returns : goal.returns
returns c = one_reading
