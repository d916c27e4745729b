-- end_plates: looks for what stands after the last sample of each plate, by the tray of its number.
use Rattle.std.proofs.Common.{◌<◌, Err, length, map, arith, sym, subst}
use Rattle.std.specs.Prelude.{slice_set}
use Rattle.plate_rows.specs.declared.error.RereadError.{RereadError}
use Rattle.plate_rows.specs.Rereading.{EndsPlates}
use Rattle.plate_rows.proofs.ReadLemmas.{ends_error, one_ended}
use Rattle.plate_rows.proofs.rereading.end_plates.Goals as goal

pub loop-place-preserved : goal.loop-place-preserved
loop-place-preserved g c =
    let trays = c.loop-place.trays in
    let k = c.loop-place.place in
    let stored : k < length trays = omega arith in
    one_ended g.T.Tray.state c.args.plates.now (map g.T.Tray.state c.args.trays.now) trays k c.index-trays-place.result c.end_plate.new.tray stored c.loop-place.invariant c.in-Ok.ensures.ended

pub returns-in-Err : goal.returns-in-Err
returns-in-Err g c =
    let plates = c.args.plates.now in
    let trays = c.loop-place.trays in
    let k = c.loop-place.place in
    let new = c.end_plate.new.tray in
    let stored : k < length trays = omega arith in
    let known : k < length plates = omega arith in
    let a = map g.T.Tray.state c.args.trays.now in
    subst (λ (s : RereadError). EndsPlates plates a (map g.T.Tray.state (slice_set trays k new)) (Err s)) (sym c.error_of.ensures)
    (ends_error g.T.Tray.state plates a trays k c.index-trays-place.result new stored c.loop-place.invariant c.in-Err.common_error c.in-Err.ensures.memory known c.in-Err.ensures.ended)
