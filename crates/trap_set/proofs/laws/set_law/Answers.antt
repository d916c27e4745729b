-- set_law: the runs of planes of one shape are a set, whose text is a set file, and a sample that a
-- run covers has another tint than before in some plate.
use Rattle.trap_set.proofs.SetLemmas.{is_set, covers_changes}
use Rattle.trap_set.proofs.laws.set_law.Goals as goal

pub returns-clause-set : goal.returns-clause-set
returns-clause-set c = is_set c.args.old.now c.args.new.now c.requires

pub returns-clause-covers : goal.returns-clause-covers
returns-clause-covers c = covers_changes c.args.old.now c.args.new.now
