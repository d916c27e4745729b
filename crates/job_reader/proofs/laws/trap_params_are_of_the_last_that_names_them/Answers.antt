-- trap_params_are_of_the_last_that_names_them: after statements without a fault each parameter, and
-- the step limits, are those of the last earlier `settrapparams` that names them.
use Rattle.job_reader.proofs.InForce.{params-in_force, limits-in_force}
use Rattle.job_reader.proofs.laws.trap_params_are_of_the_last_that_names_them.Goals as goal

pub returns-clause-params : goal.returns-clause-params
returns-clause-params c = params-in_force

pub returns-clause-limits : goal.returns-clause-limits
returns-clause-limits c = limits-in_force
