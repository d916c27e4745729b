-- written_is_read: the objects that tokens write out are read.
use Rattle.ps_laws.proofs.Parsing.{written-objects}
use Rattle.ps_laws.proofs.laws.written_is_read.Goals as goal

pub returns : goal.returns
returns c = written-objects
