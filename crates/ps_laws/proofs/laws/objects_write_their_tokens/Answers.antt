-- objects_write_their_tokens: written out in order, each closing token after the last object within
-- its bracket, the objects that are read give the tokens.
use Rattle.ps_laws.proofs.TokenKinds.{read-kinds, read-places, read-bodies}
use Rattle.ps_laws.proofs.Nesting.{read-nested}
use Rattle.ps_laws.proofs.laws.objects_write_their_tokens.Goals as goal

pub returns-clause-kinds : goal.returns-clause-kinds
returns-clause-kinds c = read-kinds

pub returns-clause-places : goal.returns-clause-places
returns-clause-places c = read-places

pub returns-clause-bodies : goal.returns-clause-bodies
returns-clause-bodies c = read-bodies

pub returns-clause-nested : goal.returns-clause-nested
returns-clause-nested c = read-nested
