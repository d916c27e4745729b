-- judge: goals that the search finds slowly.
use Rattle.std.proofs.Common.{arith}
use Rattle.std.proofs.lemmas.Grind.{common_steps}
use Rattle.trapsheet_cli.proofs.run.judge.Goals as goal

pub judge_sheet-requires-clause-named : goal.judge_sheet-requires-clause-named
judge_sheet-requires-clause-named g c = grind (arith, common_steps)

pub returns : goal.returns
returns g c = grind (arith, common_steps)

pub returns-in_default : goal.returns-in_default
returns-in_default g c = grind (arith, common_steps)
