-- What the calls in risk_of pass on for clauses: how many samples of the planes are at risk.
use Rattle.presscheck_cli.proofs.risks.risk_of.Given as goal

abbrev pub ghosts-risk_by : goal.ghosts-risk_by
ghosts-risk_by a = record { name = a.blank.name; parts = a.blank.parts }
