-- What `number_of_need` has to show.
use Rattle.std.proofs.Common.{arith}
use Rattle.band_core.proofs.NeedLemmas.{number_less}
use Rattle.band_core.proofs.needs.number_of_need.Goals as goal

pub overflow_add-result : goal.overflow_add-result
overflow_add-result c =
    let bands = c.args.bands.now in let t = number_less bands c.args.piece c.args.k c.requires.bands c.requires.piece c.requires.k in
    let u = rw c.in-1.is at t in omega (arith, u, c.ranges.piece.fits)

pub overflow_add-result-in-2-2 : goal.overflow_add-result-in-2-2
overflow_add-result-in-2-2 c =
    let bands = c.args.bands.now in let t = number_less bands c.args.piece c.args.k c.requires.bands c.requires.piece c.requires.k in
    let u = rw c.in-2.is at t in omega (arith, u, c.ranges.piece.fits, c.lowest.ensures)
