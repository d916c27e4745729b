-- judge_piece: reads as many bytes as there is room for, and judges the samples that they spell.
use Rattle.std.proofs.lemmas.Grind.{common_steps}
use Rattle.std.proofs.Common.{◌≡◌, ◌*◌, ◌+◌, List, length, take, ap, sym, subst, ◌∙◌, ℕ, arith}
use Rattle.std.proofs.lemmas.List.{length-take-le, take_all}
use Rattle.pgm_plates.specs.Plates.{sample_size}
use Rattle.pgm_plates.specs.Readers.{RasterTaken, samples_spelled}
use Rattle.pgm_plates.proofs.Pieces.{few_decoded, piece_above, piece_part, taken_whole, within_workspace, short_of_workspace}
use Rattle.pgm_plates.proofs.raster.judge_piece.Goals as goal

pub returns-in-Some-clause-answer : goal.returns-in-Some-clause-answer
returns-in-Some-clause-answer g c = λ count workspace.
    let buf = c.fill-filled.new.buf in
    let bytes = take c.fill-filled.result.0 buf in
    let m = c.args.maxval in
    let within = within_workspace buf c.fill-filled.result.0 count (sample_size m) c.fill-filled.ensures.within workspace in (
      bytes,
      c.in-Some.place * sample_size m,
      c.fill-filled.ensures.takes,
      piece_above m count bytes (samples_spelled m bytes) c.in-Some.place c.first_above.ensures.decoded c.in-Some.ensures.above
          (few_decoded m count bytes (samples_spelled m bytes) c.first_above.ensures.decoded within) within,
      ap (λ (n : ℕ). c.args.start + c.in-Some.place * n) c.sample_size.ensures,
    )

pub returns-in-Whole-clause-answer : goal.returns-in-Whole-clause-answer
returns-in-Whole-clause-answer g c = λ count workspace.
    let buf = c.fill-filled.new.buf in
    let filled = c.fill-filled.result.0 in
    let m = c.args.maxval in
    let all : filled ≡ length buf = c.fill-filled.ensures.whole c.in-Whole.is in
    let same : take filled buf ≡ buf = ap (λ (n : ℕ). take n buf) all ∙ take_all (length buf) buf (omega arith) in
    subst (λ (l : List ℕ). RasterTaken m count (g.T.Tray.state c.args.tray.now) (g.T.Tray.state c.fill-filled.new.tray) (samples_spelled m l)) same
    (taken_whole m count (take filled buf) (samples_spelled m (take filled buf)) (g.T.Tray.state c.args.tray.now) (g.T.Tray.state c.fill-filled.new.tray)
    c.fill-filled.ensures.takes c.first_above.ensures.decoded c.in-None.ensures.fit (ap length same ∙ workspace))

pub returns-in-End-clause-answer : goal.returns-in-End-clause-answer
returns-in-End-clause-answer g c = λ count workspace.
    let buf = c.fill-filled.new.buf in
    let filled = c.fill-filled.result.0 in
    let bytes = take filled buf in
    let m = c.args.maxval in
    let end = c.fill-filled.ensures.ended c.in-End.is in (
      bytes,
      c.fill-filled.ensures.takes,
      piece_part m count bytes (samples_spelled m bytes) c.first_above.ensures.decoded c.in-None.ensures.fit (within_workspace buf filled count (sample_size m) c.fill-filled.ensures.within workspace),
      short_of_workspace buf filled count (sample_size m) end.0 workspace,
      ap (λ (n : ℕ). c.args.start + n) (sym (length-take-le filled buf c.fill-filled.ensures.within)),
      end.1,
    )

pub returns-in-Broken-clause-answer : goal.returns-in-Broken-clause-answer
returns-in-Broken-clause-answer g c = λ count workspace.
    let buf = c.fill-filled.new.buf in
    let filled = c.fill-filled.result.0 in
    let bytes = take filled buf in
    let m = c.args.maxval in (
      bytes,
      c.fill-filled.ensures.takes,
      piece_part m count bytes (samples_spelled m bytes) c.first_above.ensures.decoded c.in-None.ensures.fit (within_workspace buf filled count (sample_size m) c.fill-filled.ensures.within workspace),
      c.fill-filled.ensures.broken c.in-Broken.is,
    )

pub overflow_mul-result : goal.overflow_mul-result
overflow_mul-result g c = grind (arith, common_steps)

pub returns-in-Some-clause-near : goal.returns-in-Some-clause-near
returns-in-Some-clause-near g c = grind (arith, common_steps)

pub overflow_add-result : goal.overflow_add-result
overflow_add-result g c = grind (arith, common_steps)
