-- What the calls in first_difference pass on for clauses: the first radius at which the two counts
-- differ.
use Rattle.presscheck_tests.proofs.tests.counts.first_difference.Given as goal

abbrev pub ghosts-count_at_risk : goal.ghosts-count_at_risk
ghosts-count_at_risk a = record { name = a.blank.name; parts = a.blank.parts }
