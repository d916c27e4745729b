-- read_is_written: the objects that are read are what the tokens write out.
use Rattle.ps_laws.proofs.Parsing.{objects-written}
use Rattle.ps_laws.proofs.laws.read_is_written.Goals as goal

pub returns : goal.returns
returns c = objects-written
