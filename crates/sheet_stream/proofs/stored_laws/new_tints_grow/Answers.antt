-- new_tints_grow: the rows of new tints that are written grow by a row of a core, up to all of
-- them.
use Rattle.sheet_stream.proofs.GrowLemmas.{all_new, grow}
use Rattle.sheet_stream.proofs.stored_laws.new_tints_grow.Goals as goal

pub returns-clause-grow : goal.returns-clause-grow
returns-clause-grow c = grow

pub returns-clause-all : goal.returns-clause-all
returns-clause-all c = all_new
