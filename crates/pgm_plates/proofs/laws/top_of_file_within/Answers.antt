-- top_of_file_within: what was read row by row so far is the top of the plate that the whole file
-- spells, where the tray tells its bytes.
use Rattle.pgm_plates.proofs.RowLemmas.{top_of_file}
use Rattle.pgm_plates.proofs.laws.top_of_file_within.Goals as goal

pub returns : goal.returns
returns c = top_of_file c.args.bounds
