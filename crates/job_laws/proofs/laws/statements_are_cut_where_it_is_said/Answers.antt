-- statements_are_cut_where_it_is_said: the path and the zones are of statements cut where their
-- definitions say.
use Rattle.job_laws.proofs.Cuts.{since-last, since-start, zone-at, zones-counted}
use Rattle.job_laws.proofs.laws.statements_are_cut_where_it_is_said.Goals as goal

pub returns-clause-last : goal.returns-clause-last
returns-clause-last c = since-last

pub returns-clause-no_last : goal.returns-clause-no_last
returns-clause-no_last c = since-start

pub returns-clause-each : goal.returns-clause-each
returns-clause-each c = zone-at

pub returns-clause-counted : goal.returns-clause-counted
returns-clause-counted c = zones-counted
