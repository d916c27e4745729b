-- strips_turn: a strip that is turned to as many rows is a strip of them; and the zones of all
-- strips have one form.
use Rattle.sheet_stream.proofs.TurnLemmas.{have_form, turned_is}
use Rattle.sheet_stream.proofs.stored_laws.strips_turn.Goals as goal

pub returns-clause-turned : goal.returns-clause-turned
returns-clause-turned c = turned_is

pub returns-clause-form : goal.returns-clause-form
returns-clause-form c = have_form
