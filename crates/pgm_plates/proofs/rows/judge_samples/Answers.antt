-- judge_samples: judges so many samples.
use Rattle.std.proofs.lemmas.Result.{err_from_is_err_and}
use Rattle.std.proofs.lemmas.Grind.{common_steps}
use Rattle.std.proofs.Common.{rules, arith, ◌≡◌, ◌*◌, ◌+◌, [], length, refl, ap, ℕ, ◌∙◌}
use Rattle.pgm_plates.specs.Plates.{sample_size}
use Rattle.pgm_plates.specs.Readers.{samples_spelled}
use Rattle.pgm_plates.proofs.Counts.{refused_count}
use Rattle.pgm_plates.proofs.RowLemmas.{unkept_none, unkept_more, unkept_refused}
use Rattle.pgm_plates.proofs.rows.judge_samples.Goals as goal

pub loop-done-init : goal.loop-done-init
loop-done-init g c = record { taken = unkept_none c.args.maxval (g.T.Tray.state c.args.tray.now) c.requires.begun; begun = c.requires.begun; count = refl; within = omega arith }

pub loop-done-preserved : goal.loop-done-preserved
loop-done-preserved g c =
    let want = c.min-want.result in
    let bytes = c.judge_piece.new.bytes in
    let m = c.args.maxval in
    let workspace : length bytes ≡ want * sample_size m = search rules in
    record {
      taken = unkept_more m c.loop-done.done want (g.T.Tray.state c.args.tray.now) (g.T.Tray.state c.loop-done.tray) (g.T.Tray.state c.judge_piece.new.tray) (samples_spelled m bytes) c.loop-done.invariant.taken (c.in_ok-judge_piece.ensures.answer want workspace);
      begun = c.in_ok-judge_piece.ensures.begun;
      count = c.in_ok-judge_piece.ensures.count ∙ c.loop-done.invariant.count;
      within = omega arith;
    }

pub returns-in_err-judge_piece-clause-answer : goal.returns-in_err-judge_piece-clause-answer
returns-in_err-judge_piece-clause-answer g c =
    let p = err_from_is_err_and c.from_residual.result c.from_residual.ensures.1 in
    rw (p.1, p.2) (
    let done = c.loop-done.done in
    let want = c.min-want.result in
    let m = c.args.maxval in
    let workspace : length c.judge_piece.new.bytes ≡ want * sample_size m = search rules in (
      [],
      unkept_refused m c.args.count done want c.args.start (c.args.start + done * c.sample_size-size.result) (g.T.Tray.state c.args.tray.now) (g.T.Tray.state c.loop-done.tray) (g.T.Tray.state c.judge_piece.new.tray) c.in_err-judge_piece.field-0.0
          (omega arith) (ap (λ (n : ℕ). c.args.start + done * n) c.sample_size-size.ensures) c.loop-done.invariant.taken (c.in_err-judge_piece.ensures.answer want workspace),
    )
    )

pub returns-in_err-judge_piece-clause-count : goal.returns-in_err-judge_piece-clause-count
returns-in_err-judge_piece-clause-count g c =
    let p = err_from_is_err_and c.from_residual.result c.from_residual.ensures.1 in
    rw (p.1, p.2) (refused_count (Unit {0}) (Unit {0}) (g.T.Tray.state c.args.tray.now) (g.T.Tray.state c.loop-done.tray) (g.T.Tray.state c.judge_piece.new.tray) c.in_err-judge_piece.field-0.0 c.loop-done.invariant.count c.in_err-judge_piece.ensures.count)

pub loop-done-smaller : goal.loop-done-smaller
loop-done-smaller g c = grind (arith, common_steps)

pub overflow_mul-want : goal.overflow_mul-want
overflow_mul-want g c = grind (arith, common_steps)
