-- close_row: the samples of row y that no row bares are not at risk.
use Rattle.std.proofs.Common.{◌≡◌, nat_lt, length, slice_index, refl, arith, if◌then◌else◌}
use Rattle.std.proofs.lemmas.Bool.Decides.{nat_tests}
use Rattle.misregister.specs.Sweep.{at}
use Rattle.misregister.proofs.RowLemmas.{row_next, place_in}
use Rattle.misregister.proofs.plate.close_row.Goals as goal

pub loop-x-preserved : goal.loop-x-preserved
loop-x-preserved c =
    let columns = length c.args.until.now in
    let x = c.loop-x.x in
    let stored = c.loop-x.invariant.later x (omega arith) (omega arith) in
    let same : c.if-y-until.shades ≡ (if nat_lt c.args.y (slice_index c.args.until.now x) then at c.args.shades.now columns c.args.y x else 0) = grind (arith, nat_tests) in
    row_next _ c.loop-x.shades _ columns c.args.y _ x c.if-y-until.shades (omega arith) (place_in columns c.args.y x _ (omega arith) (omega arith)) refl
    same c.loop-x.invariant
