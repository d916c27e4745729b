-- Jobs and their first faults, coded: so two of them are equal in at most one way.
use Rattle.std.specs.Prelude.{Result}
use Rattle.std.specs.Coded.{Coded, coded_result}
use Rattle.job_reader.specs.declared.job.Job.{Job}
use Rattle.job_reader.specs.contracts.job.Job.{the_row as job_row}
use Rattle.ps_tokens.specs.declared.faults.JobFault.{JobFault}
use Rattle.ps_tokens.specs.contracts.faults.JobFault.{the_row as fault_row}

abbrev pub read_coded : Coded (Result Job JobFault)
read_coded = coded_result job_row.coded fault_row.coded
