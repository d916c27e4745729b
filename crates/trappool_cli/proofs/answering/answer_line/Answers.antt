-- answer_line: goals that the search finds slowly.
use Rattle.std.proofs.Common.{rules}
use Rattle.trappool_cli.proofs.answering.answer_line.Goals as goal

pub returns-in-Ok : goal.returns-in-Ok
returns-in-Ok g c = search rules

pub returns-in-Err : goal.returns-in-Err
returns-in-Err g c = search rules
