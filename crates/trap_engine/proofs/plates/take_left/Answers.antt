-- take_left: takes plate c out of the closed table, if it is not taken yet.
use Rattle.trap_engine.proofs.TableRows.{cells_stored}
use Rattle.trap_engine.proofs.plates.take_left.Goals as goal

pub take_plate-work-requires-clause-known : goal.take_plate-work-requires-clause-known
take_plate-work-requires-clause-known c = λ i _. cells_stored c.args.page.now c.args.closed.now i c.requires.finished
