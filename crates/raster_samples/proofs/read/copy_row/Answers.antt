-- copy_row: the numbers of a run are those of the row.
use Rattle.std.proofs.Common.{length, arith}
use Rattle.raster_samples.proofs.RectLemmas.{IsRunOf, first_room, row_tints, run_in}
use Rattle.raster_samples.proofs.read.copy_row.Goals as goal

pub run_from-run-requires-clause-room : goal.run_from-run-requires-clause-room
run_from-run-requires-clause-room c =
    let both = first_room c.args.raster.now c.args.rect (length c.args.bytes.now) c.args.y c.requires.raster c.requires.rect c.requires.inside in
    omega (arith, both.1)

pub run_from-run-requires-clause-low : goal.run_from-run-requires-clause-low
run_from-run-requires-clause-low c =
    (first_room c.args.raster.now c.args.rect (length c.args.bytes.now) c.args.y c.requires.raster c.requires.rect c.requires.inside).0

pub read_numbers-requires-clause-inside : goal.read_numbers-requires-clause-inside
read_numbers-requires-clause-inside c =
    let is : IsRunOf c.args.raster.now c.args.rect c.args.y c.run_from-run.result = record { from = c.run_from-run.ensures.from; forward_is = c.run_from-run.ensures.forward; back_is = c.run_from-run.ensures.back } in
    run_in c.args.raster.now c.args.rect c.run_from-run.result (length c.args.bytes.now) c.args.y (length c.args.row.now) c.requires.raster c.requires.rect c.requires.inside is c.requires.room

pub returns : goal.returns
returns c =
    let is : IsRunOf c.args.raster.now c.args.rect c.args.y c.run_from-run.result = record { from = c.run_from-run.ensures.from; forward_is = c.run_from-run.ensures.forward; back_is = c.run_from-run.ensures.back } in
    row_tints c.args.raster.now c.args.rect c.run_from-run.result (length c.args.bytes.now) c.args.y (length c.args.row.now) c.args.bytes.now c.read_numbers.new.row c.turn.new.row c.requires.raster c.requires.rect c.requires.inside is c.requires.room (omega arith) c.read_numbers.ensures c.turn.ensures
