-- What the calls in `the_upper_edge_answers_where_two_are_as_near` pass on for clauses.
use Rattle.rule_tests.proofs.columns.the_upper_edge_answers_where_two_are_as_near.Given as goal

abbrev pub ghosts-answers : goal.ghosts-answers
ghosts-answers g a = record { name = a.blank.name; parts = a.blank.parts }
