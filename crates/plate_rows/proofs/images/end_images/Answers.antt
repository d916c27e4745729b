-- end_images: finishes the files of so many plates, each by the rack of its number.
use Rattle.std.proofs.Common.{◌<◌, length, map, arith}
use Rattle.plate_rows.proofs.WriteLemmas.{finished, not_finished}
use Rattle.plate_rows.proofs.images.end_images.Goals as goal

pub loop-place-preserved : goal.loop-place-preserved
loop-place-preserved g c =
    let racks = c.loop-place.racks in
    let k = c.loop-place.place in
    let stored : k < length racks = omega arith in
    let known : k < c.args.count = omega arith in
    finished g.R.Rack.state (map g.R.Rack.state c.args.racks.now) racks k c.args.count c.index-racks-place.result c.end_image.new.rack stored known c.loop-place.invariant c.in-Ok.ensures

pub returns-in-Err : goal.returns-in-Err
returns-in-Err g c =
    let racks = c.loop-place.racks in
    let k = c.loop-place.place in
    let stored : k < length racks = omega arith in
    let known : k < c.args.count = omega arith in
    not_finished g.R.Rack.state (map g.R.Rack.state c.args.racks.now) racks k c.args.count c.index-racks-place.result c.end_image.new.rack stored known c.in-Err.field-0 c.loop-place.invariant c.in-Err.ensures
