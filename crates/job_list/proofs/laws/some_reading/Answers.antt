-- some_reading: bytes are a list, or have a first bad line.
use Rattle.job_list.proofs.Readings.{some_reading}
use Rattle.job_list.proofs.laws.some_reading.Goals as goal

pub returns : goal.returns
returns c = some_reading
