-- read_ahead: makes the rows of the next strip.
use Rattle.std.proofs.Common.{arith}
use Rattle.std.proofs.lemmas.Grind.{common_steps}
use Rattle.sheet_stream.proofs.stored_rows.read_ahead.Goals as goal

pub fill_planes-requires-clause-kept : goal.fill_planes-requires-clause-kept
fill_planes-requires-clause-kept g c = λ k l. (let full = (c.copy_planes.ensures.each k (omega (arith, l, c.requires.planes))).form.full in let fit = c.requires.common k l in omega (arith, full, fit))

pub fill_planes-requires-clause-read : goal.fill_planes-requires-clause-read
fill_planes-requires-clause-read g c = λ k l. (let full = (c.copy_planes.ensures.each k (omega (arith, l, c.requires.planes))).form.full in rw full (c.requires.read k l))

pub returns : goal.returns
returns g c = grind (arith, common_steps)
