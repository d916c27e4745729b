-- trap_cut: traps a sheet that is cut into these columns and rows.
use Rattle.std.proofs.lemmas.Grind.{common_steps}
use Rattle.std.proofs.Common.{arith}
use Rattle.sheet_files.proofs.whole.trap_cut.Goals as goal

pub returns-clause-counts : goal.returns-clause-counts
returns-clause-counts g c = record { before = c.in_ok-counts.counts; none = c.in_ok-counts.ensures; adds = c.in_ok-trap_rows.ensures.counts }

pub returns-clause-tints : goal.returns-clause-tints
returns-clause-tints g c = grind (arith, common_steps)
