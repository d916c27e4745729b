-- read_whole: whole cells of any phase, whose bits and lanes are constants.
use Rattle.std.proofs.Common.{arith}
use Rattle.std.proofs.lemmas.Grind.{common_steps}
use Rattle.band_pieces.proofs.reading.read_whole.Goals as goal

pub read_cells-requires-clause-inside : goal.read_cells-requires-clause-inside
read_cells-requires-clause-inside g c = grind (arith, common_steps)

pub read_cells-requires-clause-out : goal.read_cells-requires-clause-out
read_cells-requires-clause-out g c = grind (arith, common_steps)

pub read_cells-requires-in-1-clause-inside : goal.read_cells-requires-in-1-clause-inside
read_cells-requires-in-1-clause-inside g c = grind (arith, common_steps)

pub read_cells-requires-in-1-clause-out : goal.read_cells-requires-in-1-clause-out
read_cells-requires-in-1-clause-out g c = grind (arith, common_steps)

pub read_cells-requires-in-2-clause-inside : goal.read_cells-requires-in-2-clause-inside
read_cells-requires-in-2-clause-inside g c = grind (arith, common_steps)

pub read_cells-requires-in-2-clause-out : goal.read_cells-requires-in-2-clause-out
read_cells-requires-in-2-clause-out g c = grind (arith, common_steps)

pub read_cells-requires-in_default-clause-inside : goal.read_cells-requires-in_default-clause-inside
read_cells-requires-in_default-clause-inside g c = grind (arith, common_steps)

pub read_cells-requires-in_default-clause-out : goal.read_cells-requires-in_default-clause-out
read_cells-requires-in_default-clause-out g c = grind (arith, common_steps)

pub returns-in-0-clause-here : goal.returns-in-0-clause-here
returns-in-0-clause-here g c = grind (arith, common_steps)

pub returns-in-1-clause-here : goal.returns-in-1-clause-here
returns-in-1-clause-here g c = grind (arith, common_steps)

pub returns-in-2-clause-here : goal.returns-in-2-clause-here
returns-in-2-clause-here g c = grind (arith, common_steps)

pub returns-in_default-clause-here : goal.returns-in_default-clause-here
returns-in_default-clause-here g c = grind (arith, common_steps)

pub read_cells-requires-in-1-clause-bits : goal.read_cells-requires-in-1-clause-bits
read_cells-requires-in-1-clause-bits g c = grind (arith, common_steps)

pub read_cells-requires-clause-bits : goal.read_cells-requires-clause-bits
read_cells-requires-clause-bits g c = grind (arith, common_steps)

pub read_cells-requires-in-2-clause-bits : goal.read_cells-requires-in-2-clause-bits
read_cells-requires-in-2-clause-bits g c = grind (arith, common_steps)

pub returns-in_default-clause-kept : goal.returns-in_default-clause-kept
returns-in_default-clause-kept g c = grind (arith, common_steps)

pub returns-in-0-clause-kept : goal.returns-in-0-clause-kept
returns-in-0-clause-kept g c = grind (arith, common_steps)

pub read_cells-requires-in-2-clause-fits : goal.read_cells-requires-in-2-clause-fits
read_cells-requires-in-2-clause-fits g c = grind (arith, common_steps)

pub read_cells-requires-in_default-clause-fits : goal.read_cells-requires-in_default-clause-fits
read_cells-requires-in_default-clause-fits g c = grind (arith, common_steps)

pub read_cells-requires-in-1-clause-fits : goal.read_cells-requires-in-1-clause-fits
read_cells-requires-in-1-clause-fits g c = grind (arith, common_steps)

pub read_cells-requires-in-2-clause-lanes : goal.read_cells-requires-in-2-clause-lanes
read_cells-requires-in-2-clause-lanes g c = grind (arith, common_steps)

pub read_cells-requires-clause-fits : goal.read_cells-requires-clause-fits
read_cells-requires-clause-fits g c = grind (arith, common_steps)

pub read_cells-requires-in-1-clause-lanes : goal.read_cells-requires-in-1-clause-lanes
read_cells-requires-in-1-clause-lanes g c = grind (arith, common_steps)

pub returns-in-1-clause-kept : goal.returns-in-1-clause-kept
returns-in-1-clause-kept g c = grind (arith, common_steps)

pub read_cells-requires-clause-lanes : goal.read_cells-requires-clause-lanes
read_cells-requires-clause-lanes g c = grind (arith, common_steps)

pub returns-in-2-clause-kept : goal.returns-in-2-clause-kept
returns-in-2-clause-kept g c = grind (arith, common_steps)
