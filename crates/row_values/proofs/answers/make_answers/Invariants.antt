-- What the calls in make_answers pass on for clauses: writes the column answers of these rows, row
-- by row from doubled column 0 on.
use Rattle.row_values.proofs.answers.make_answers.Given as goal

abbrev pub ghosts-scan_with_counter : goal.ghosts-scan_with_counter
ghosts-scan_with_counter a = record { name = a.blank.name; parts = a.blank.parts }
