-- fault_of_bytes_stands: a fault is that of bytes exactly where it is of their number, or else the
-- first of the tokens, or else of the objects, or else of the statements.
use Rattle.job_laws.proofs.Ends.{fault-stands, stands-fault}
use Rattle.job_laws.proofs.laws.fault_of_bytes_stands.Goals as goal

pub returns-clause-stands : goal.returns-clause-stands
returns-clause-stands c = fault-stands

pub returns-clause-reported : goal.returns-clause-reported
returns-clause-reported c = stands-fault
