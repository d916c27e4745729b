use Rattle.std.proofs.Common.{length}
use Rattle.keep_sheets.proofs.halo.+under_colour.Given as goal

abbrev pub decreases-under_colour : goal.decreases-under_colour
decreases-under_colour l = length l.whites.now
