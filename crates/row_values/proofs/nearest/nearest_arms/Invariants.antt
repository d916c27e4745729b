-- What the calls in nearest_arms pass on for clauses: writes for each sample of row y the place of
-- its nearest arm, and for each place the arm's column.
use Rattle.row_values.proofs.nearest.nearest_arms.Given as goal

abbrev pub ghosts-nearest_by : goal.ghosts-nearest_by
ghosts-nearest_by a = record { name = a.blank.name; parts = a.blank.parts }
