-- fault_is_the_first_by_what_is_in_force: statements have a fault exactly where it is the first one
-- by what is in force at its statement, and none stands before it; or where none has one and none
-- is `showpage`.
use Rattle.job_laws.proofs.Ends.{read-faults, faults-read}
use Rattle.job_laws.proofs.laws.fault_is_the_first_by_what_is_in_force.Goals as goal

pub returns-clause-stands : goal.returns-clause-stands
returns-clause-stands c = read-faults

pub returns-clause-reported : goal.returns-clause-reported
returns-clause-reported c = faults-read
