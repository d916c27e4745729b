-- fill_samples: reads samples until there are as many as there is room for.
use Rattle.std.proofs.lemmas.Result.{err_from_is_err_and}
use Rattle.std.proofs.Common.{arith, ◌≡◌, ◌≤◌, ◌*◌, ◌+◌, ◌-◌, length, ap, ℕ, ◌∙◌}
use Rattle.std.proofs.lemmas.Grind.{common_steps}
use borrow.Rule.Slice.PartMut.{put_mid}
use Rattle.pgm_plates.proofs.Counts.{refused_count}
use Rattle.pgm_plates.proofs.RowLemmas.{filled_takes, filled_fit, filled_refused}
use Rattle.pgm_plates.proofs.rows.fill_samples.Goals as goal

pub loop-done-preserved : goal.loop-done-preserved
loop-done-preserved g c =
    let done = c.loop-done.done in
    let want = c.min-want.result in
    let k = done + want - done in
    let buf = c.loop-done.samples in
    let part = c.read_piece.new.samples in
    let m = c.args.maxval in
    let a = g.T.Tray.state c.args.tray.now in
    let b = g.T.Tray.state c.loop-done.tray in
    let d = g.T.Tray.state c.read_piece.new.tray in
    let all : length part ≡ want = grind (arith, common_steps) in
    let taken = c.in_ok-read_piece.ensures.answer in
    record {
      takes = filled_takes m want a b d buf part done k c.loop-done.invariant.within all c.loop-done.invariant.takes taken;
      count = c.in_ok-read_piece.ensures.count ∙ c.loop-done.invariant.count;
      fit = filled_fit m want buf part done k c.loop-done.invariant.within all c.loop-done.invariant.fit taken.fit;
      within = grind (arith, common_steps);
    }

pub returns-in_err-read_piece-clause-answer : goal.returns-in_err-read_piece-clause-answer
returns-in_err-read_piece-clause-answer g c =
    let p = err_from_is_err_and c.from_residual.result c.from_residual.ensures.1 in
    rw (p.1, p.2) (
    let done = c.loop-done.done in
    let want = c.min-want.result in
    let buf = c.loop-done.samples in
    let part = c.read_piece.new.samples in
    let m = c.args.maxval in
    let count = length (put_mid done (done + want - done) buf part) in
    let few : done + length part ≤ count = grind (arith, common_steps) in
    filled_refused m count c.args.start (c.args.start + done * c.sample_size-size.result) done (length part) (g.T.Tray.state c.args.tray.now) (g.T.Tray.state c.loop-done.tray) (g.T.Tray.state c.read_piece.new.tray) buf c.in_err-read_piece.field-0.0
    c.loop-done.invariant.within few (ap (λ (n : ℕ). c.args.start + done * n) c.sample_size-size.ensures) c.loop-done.invariant.takes c.loop-done.invariant.fit c.in_err-read_piece.ensures.answer
    )

pub returns-in_err-read_piece-clause-count : goal.returns-in_err-read_piece-clause-count
returns-in_err-read_piece-clause-count g c =
    let p = err_from_is_err_and c.from_residual.result c.from_residual.ensures.1 in
    rw (p.1, p.2) (refused_count (Unit {0}) (Unit {0}) (g.T.Tray.state c.args.tray.now) (g.T.Tray.state c.loop-done.tray) (g.T.Tray.state c.read_piece.new.tray) c.in_err-read_piece.field-0.0 c.loop-done.invariant.count c.in_err-read_piece.ensures.count)

pub overflow_mul-want : goal.overflow_mul-want
overflow_mul-want g c = grind (arith, common_steps)

pub returns-clause-answer : goal.returns-clause-answer
returns-clause-answer g c = grind (arith, common_steps)

pub loop-done-smaller : goal.loop-done-smaller
loop-done-smaller g c = grind (arith, common_steps)

pub read_piece-requires-clause-workspace : goal.read_piece-requires-clause-workspace
read_piece-requires-clause-workspace g c = grind (arith, common_steps)

pub returns-in_err-read_piece-clause-memory : goal.returns-in_err-read_piece-clause-memory
returns-in_err-read_piece-clause-memory g c = grind (arith, common_steps)
