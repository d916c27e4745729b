-- carry_out_named_window: goals that the search finds slowly.
use Rattle.std.proofs.lemmas.Grind.{common_steps}
use Rattle.std.proofs.Common.{arith}
use Rattle.trap_c.proofs.work.carry_out_named_window.Goals as goal

pub trap_window-requires-clause-placed : goal.trap_window-requires-clause-placed
trap_window-requires-clause-placed c = grind (arith, common_steps)

pub trap_window-requires-clause-call : goal.trap_window-requires-clause-call
trap_window-requires-clause-call c = grind (arith, common_steps)
