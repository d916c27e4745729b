-- What the calls in `the_left_arm_is_nearest_where_two_are_as_near` pass on for clauses.
use Rattle.rule_tests.proofs.envelopes.the_left_arm_is_nearest_where_two_are_as_near.Given as goal

abbrev pub ghosts-places : goal.ghosts-places
ghosts-places g a = record { name = a.blank.name; parts = a.blank.parts }
