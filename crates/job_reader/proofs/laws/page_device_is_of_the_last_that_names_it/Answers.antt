-- page_device_is_of_the_last_that_names_it: after statements without a fault the page's entries are
-- those of the last earlier `setpagedevice` that names them.
use Rattle.job_reader.proofs.InForce.{resolution-in_force, trapping-in_force, details-in_force}
use Rattle.job_reader.proofs.laws.page_device_is_of_the_last_that_names_it.Goals as goal

pub returns-clause-resolution : goal.returns-clause-resolution
returns-clause-resolution c = resolution-in_force

pub returns-clause-trapping : goal.returns-clause-trapping
returns-clause-trapping c = trapping-in_force

pub returns-clause-details : goal.returns-clause-details
returns-clause-details c = details-in_force
