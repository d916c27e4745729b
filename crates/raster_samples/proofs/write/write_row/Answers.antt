-- write_row: the numbers of a run are those of the row.
use Rattle.std.proofs.Common.{length, arith}
use Rattle.raster_samples.proofs.RectLemmas.{IsRunOf, first_room, row_written, run_apart, run_in}
use Rattle.raster_samples.proofs.write.write_row.Goals as goal

pub run_from-run-requires-clause-room : goal.run_from-run-requires-clause-room
run_from-run-requires-clause-room c =
    let both = first_room c.args.raster.now c.args.rect (length c.args.bytes.now) c.args.y c.requires.raster c.requires.rect c.requires.inside in
    omega (arith, both.1)

pub run_from-run-requires-clause-low : goal.run_from-run-requires-clause-low
run_from-run-requires-clause-low c =
    (first_room c.args.raster.now c.args.rect (length c.args.bytes.now) c.args.y c.requires.raster c.requires.rect c.requires.inside).0

pub write_numbers-requires-clause-inside : goal.write_numbers-requires-clause-inside
write_numbers-requires-clause-inside c =
    let is : IsRunOf c.args.raster.now c.args.rect c.args.y c.run_from-run.result = record { from = c.run_from-run.ensures.from; forward_is = c.run_from-run.ensures.forward; back_is = c.run_from-run.ensures.back } in
    run_in c.args.raster.now c.args.rect c.run_from-run.result (length c.args.bytes.now) c.args.y (length c.args.row.now) c.requires.raster c.requires.rect c.requires.inside is c.requires.room

pub write_numbers-requires-clause-apart : goal.write_numbers-requires-clause-apart
write_numbers-requires-clause-apart c =
    let is : IsRunOf c.args.raster.now c.args.rect c.args.y c.run_from-run.result = record { from = c.run_from-run.ensures.from; forward_is = c.run_from-run.ensures.forward; back_is = c.run_from-run.ensures.back } in
    run_apart c.args.raster.now c.args.rect c.run_from-run.result (length c.args.bytes.now) c.args.y (length c.args.row.now) c.requires.raster c.requires.rect c.requires.inside is c.requires.room c.requires.apart

pub returns : goal.returns
returns c =
    let is : IsRunOf c.args.raster.now c.args.rect c.args.y c.run_from-run.result = record { from = c.run_from-run.ensures.from; forward_is = c.run_from-run.ensures.forward; back_is = c.run_from-run.ensures.back } in
    row_written c.args.raster.now c.args.rect c.run_from-run.result (length c.args.bytes.now) c.args.y (length c.args.row.now) c.args.row.now c.args.bytes.now c.write_numbers.new.bytes c.requires.raster c.requires.rect c.requires.inside is c.requires.room c.requires.fit c.write_numbers.ensures
