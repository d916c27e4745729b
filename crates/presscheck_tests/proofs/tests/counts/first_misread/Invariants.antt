-- What the calls in first_misread pass on for clauses: the first plate of which the sheet says
-- something else than its plane.
use Rattle.presscheck_tests.proofs.tests.counts.first_misread.Given as goal

abbrev pub ghosts-plate_is_reported : goal.ghosts-plate_is_reported
ghosts-plate_is_reported a = record { name = a.blank.name; parts = a.blank.parts }
