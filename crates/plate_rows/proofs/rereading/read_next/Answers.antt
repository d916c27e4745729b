-- read_next: reads the next rows of each plate by the tray of its number, and turns their samples
-- into tints of the plane of its number.
use Rattle.std.proofs.lemmas.Grind.{common_steps}
use Rattle.std.proofs.Common.{◌<◌, Ok, Err, length, map, get_or, arith, sym, subst, ◌∙◌}
use Rattle.std.specs.Prelude.{slice_set}
use Rattle.page_model.specs.declared.parts.Plane.{Plane}
use Rattle.plate_rows.specs.declared.error.RereadError.{RereadError}
use Rattle.plate_rows.specs.Rereading.{ReadsNext, ReadsPlane}
use Rattle.plate_rows.specs.Trays.{open_at}
use Rattle.plate_rows.proofs.ReadLemmas.{next_stops, one_filled, plane_there}
use Rattle.plate_rows.proofs.rereading.read_next.Goals as goal

pub loop-place-preserved : goal.loop-place-preserved
loop-place-preserved g c =
    let state = g.T.Tray.state in
    let plates = c.args.plates.now in
    let trays = c.loop-place.trays in
    let planes = c.loop-place.planes in
    let k = c.loop-place.place in
    let old = c.index-trays-place.result in
    let tray = c.read_plane.new.tray in
    let plane = c.read_plane.new.plane in
    let stored : k < length trays = omega arith in
    let filled : k < length planes = omega arith in
    one_filled state plates c.args.next c.args.planes.now planes (map state c.args.trays.now) trays k old tray stored c.loop-place.invariant plane filled
    (subst (λ (p : Plane). ReadsPlane (open_at plates k) c.args.next p plane (state (get_or trays k old)) (state tray) (Ok tt)) (plane_there planes k c.index-planes-place.result filled ∙ c.loop-place.invariant.rest k (omega arith)) c.in-Ok.ensures.answer)

pub returns-in-Err : goal.returns-in-Err
returns-in-Err g c =
    let state = g.T.Tray.state in
    let plates = c.args.plates.now in
    let trays = c.loop-place.trays in
    let planes = c.loop-place.planes in
    let k = c.loop-place.place in
    let old = c.index-trays-place.result in
    let tray = c.read_plane.new.tray in
    let plane = c.read_plane.new.plane in
    let stored : k < length trays = omega arith in
    let filled : k < length planes = omega arith in
    let known : k < length plates = omega arith in
    let a = map state c.args.trays.now in
    subst (λ (s : RereadError). ReadsNext plates c.args.next c.args.planes.now (slice_set planes k plane) a (map state (slice_set trays k tray)) (Err s)) (sym c.error_of.ensures)
    (next_stops state plates c.args.next c.args.planes.now planes a trays k old tray stored c.loop-place.invariant (slice_set planes k plane) c.in-Err.common_error c.in-Err.ensures.memory known
    (subst (λ (p : Plane). ReadsPlane (open_at plates k) c.args.next p plane (state (get_or trays k old)) (state tray) (Err c.in-Err.common_error)) (plane_there planes k c.index-planes-place.result filled ∙ c.loop-place.invariant.rest k (omega arith)) c.in-Err.ensures.answer))

pub loop-place-init : goal.loop-place-init
loop-place-init g c = grind (arith, common_steps)
