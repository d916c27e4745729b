-- write_values: writes the samples of an image by pieces of as many bytes as there is room for.
use Rattle.std.proofs.lemmas.Result.{err_from_is_err_and}
use Rattle.std.proofs.lemmas.Grind.{common_steps}
use Rattle.std.proofs.Common.{◌+◌, ◌-◌, ◌++◌, ◌∙◌, arith, take, drop, ap, Ok, Err, ◌≤◌}
use Rattle.std.proofs.lemmas.List.{take_all, length-map}
use Rattle.outside.proofs.Steps.{writes_then, writes_stopped, writes_as}
use Rattle.pgm_plates.specs.Planes.{sample_in, samples_in}
use Rattle.pgm_plates.specs.Plates.{raster}
use Rattle.pgm_plates.proofs.Rasters.{raster_more, raster_split}
use Rattle.pgm_plates.proofs.Turned.{samples_of_piece}
use Rattle.pgm_plates.proofs.writing.write_values.Goals as goal

pub loop-done-preserved : goal.loop-done-preserved
loop-done-preserved g c =
    let done = c.loop-done.done in
    let end = (c.loop-done.done + c.min.result) in
    let m = c.args.image.now.maxval in
    let vs = c.args.image.now.values.now in
    let xs = samples_in c.args.image.now vs in
    let le : done ≤ end = omega arith in
    record {
      wrote = writes_as (raster m (take done xs) ++ raster m (take (end - done) (drop done xs))) (raster m (take end xs)) (raster_more m xs done end le) (g.R.Rack.state c.args.rack.now) (g.R.Rack.state c.write_on.new.rack) (Ok tt)
          (writes_then (raster m (take done xs)) (raster m (take (end - done) (drop done xs))) (g.R.Rack.state c.args.rack.now) (g.R.Rack.state c.loop-done.rack) (g.R.Rack.state c.write_on.new.rack) tt (Ok tt) c.loop-done.invariant.wrote
          (writes_as (take c.encode-count.result c.encode-count.new.bytes) (raster m (take (end - done) (drop done xs))) (c.encode-count.ensures.spelled ∙ ap (raster m) (samples_of_piece c.args.image.now vs done (end - done))) (g.R.Rack.state c.loop-done.rack) (g.R.Rack.state c.write_on.new.rack) (Ok tt) c.in_ok-write_on.ensures));
      within = omega arith;
    }

pub returns-in_err-write_on : goal.returns-in_err-write_on
returns-in_err-write_on g c =
    let p = err_from_is_err_and c.from_residual.result c.from_residual.ensures.1 in
    rw p.1 (
    let done = c.loop-done.done in
    let end = (c.loop-done.done + c.min.result) in
    let m = c.args.image.now.maxval in
    let vs = c.args.image.now.values.now in
    let xs = samples_in c.args.image.now vs in
    let le : done ≤ end = omega arith in
    writes_as (raster m (take end xs) ++ raster m (drop end xs)) (raster m xs) (raster_split m xs end) (g.R.Rack.state c.args.rack.now) (g.R.Rack.state c.write_on.new.rack) _
    (writes_stopped (raster m (take end xs)) (raster m (drop end xs)) (g.R.Rack.state c.args.rack.now) (g.R.Rack.state c.write_on.new.rack) c.in_err-write_on.field-0.0 _
    (writes_as (raster m (take done xs) ++ raster m (take (end - done) (drop done xs))) (raster m (take end xs)) (raster_more m xs done end le) (g.R.Rack.state c.args.rack.now) (g.R.Rack.state c.write_on.new.rack) (Err c.in_err-write_on.field-0.0)
    (writes_then (raster m (take done xs)) (raster m (take (end - done) (drop done xs))) (g.R.Rack.state c.args.rack.now) (g.R.Rack.state c.loop-done.rack) (g.R.Rack.state c.write_on.new.rack) tt (Err c.in_err-write_on.field-0.0) c.loop-done.invariant.wrote
    (writes_as (take c.encode-count.result c.encode-count.new.bytes) (raster m (take (end - done) (drop done xs))) (c.encode-count.ensures.spelled ∙ ap (raster m) (samples_of_piece c.args.image.now vs done (end - done))) (g.R.Rack.state c.loop-done.rack) (g.R.Rack.state c.write_on.new.rack) (Err c.in_err-write_on.field-0.0) c.in_err-write_on.ensures))))
    )

pub returns : goal.returns
returns g c =
    let m = c.args.image.now.maxval in
    let vs = c.args.image.now.values.now in
    let xs = samples_in c.args.image.now vs in
    writes_as (raster m (take c.loop-done.done xs)) (raster m xs) (ap (raster m) (take_all c.loop-done.done xs (omega (arith, length-map vs (sample_in c.args.image.now))))) (g.R.Rack.state c.args.rack.now) (g.R.Rack.state c.loop-done.rack) _ c.loop-done.invariant.wrote

pub encode-count-requires-clause-fits : goal.encode-count-requires-clause-fits
encode-count-requires-clause-fits g c = grind (arith, common_steps)
