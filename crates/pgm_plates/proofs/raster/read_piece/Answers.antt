-- read_piece: reads as many samples as there is room for.
use Rattle.std.proofs.lemmas.Result.{err_from_is_err_and}
use Rattle.std.proofs.Common.{rules, ◌≡◌, ◌*◌, length}
use Rattle.pgm_plates.specs.Plates.{sample_size}
use Rattle.pgm_plates.specs.Readers.{samples_spelled}
use Rattle.pgm_plates.proofs.Pieces.{taken_as}
use Rattle.pgm_plates.proofs.raster.read_piece.Goals as goal

pub returns-clause-answer : goal.returns-clause-answer
returns-clause-answer g c =
    let bytes = c.judge_piece.new.bytes in
    let workspace : length bytes ≡ length c.args.samples.now * sample_size c.args.maxval = search rules in
    taken_as c.args.maxval (length c.args.samples.now) (g.T.Tray.state c.args.tray.now) (g.T.Tray.state c.judge_piece.new.tray) (samples_spelled c.args.maxval bytes) c.decode.new.samples
    c.decode.ensures (c.in_ok-judge_piece.ensures.answer (length c.args.samples.now) workspace)

pub returns-in_err-judge_piece-clause-answer : goal.returns-in_err-judge_piece-clause-answer
returns-in_err-judge_piece-clause-answer g c =
    let p = err_from_is_err_and c.from_residual.result c.from_residual.ensures.1 in
    rw (p.1, p.2) (
    let workspace : length c.judge_piece.new.bytes ≡ length c.args.samples.now * sample_size c.args.maxval = search rules in
    c.in_err-judge_piece.ensures.answer (length c.args.samples.now) workspace
    )
