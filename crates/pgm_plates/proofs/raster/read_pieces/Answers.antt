-- read_pieces: reads samples after the ones that are there, until there are that many.
use Rattle.std.proofs.lemmas.Result.{err_from_is_err_and}
use Rattle.std.proofs.Common.{rules, arith, ◌≡◌, ◌≤◌, ◌*◌, ◌+◌, length, ap, ℕ, ◌∙◌}
use Rattle.std.proofs.lemmas.Grind.{common_steps}
use Rattle.pgm_plates.specs.Plates.{sample_size}
use Rattle.pgm_plates.proofs.Counts.{refused_count}
use Rattle.pgm_plates.proofs.ReadValues.{values_all, values_more, values_no_workspace, values_refused}
use Rattle.pgm_plates.proofs.raster.read_pieces.Goals as goal

pub loop-form-preserved : goal.loop-form-preserved
loop-form-preserved g c =
    let more = values_more c.args.form c.args.maxval (length c.read_values.new.values) (g.T.Tray.state c.args.tray.now) (g.T.Tray.state c.loop-form.tray) (g.T.Tray.state c.read_values.new.tray)
    c.loop-form.values.items c.read_values.new.values c.extend_from_slice.new.self.items (grind (arith, common_steps)) c.loop-form.invariant.takes c.loop-form.invariant.fit c.in_ok-read_values.ensures.answer c.in_ok-read_values.ensures.below in
    record {
      takes = more.0;
      count = c.in_ok-read_values.ensures.count ∙ c.loop-form.invariant.count;
      fit = more.1;
      within = grind (arith, common_steps);
    }

pub returns-in_err-read_values-clause-count : goal.returns-in_err-read_values-clause-count
returns-in_err-read_values-clause-count g c =
    let p = err_from_is_err_and c.from_residual.result c.from_residual.ensures.1 in
    rw (p.1, p.2) (refused_count (Unit {0}) (Unit {0}) (g.T.Tray.state c.args.tray.now) (g.T.Tray.state c.loop-form.tray) (g.T.Tray.state c.read_values.new.tray) c.in_err-read_values.field-0.0 c.loop-form.invariant.count c.in_err-read_values.ensures.count)

pub returns-in_err-extend_from_slice-clause-answer : goal.returns-in_err-extend_from_slice-clause-answer
returns-in_err-extend_from_slice-clause-answer g c =
    let p = err_from_is_err_and c.from_residual-in_err-extend_from_slice.result c.from_residual-in_err-extend_from_slice.ensures.1 in
    rw (p.1, p.2) (
    let xs = c.loop-form.values.items in
    let ys = c.read_values.new.values in
    let few : length xs + length ys ≤ c.args.count = grind (arith, common_steps) in
    values_no_workspace c.args.form c.args.maxval c.args.count (length ys) c.args.start (g.T.Tray.state c.args.tray.now) (g.T.Tray.state c.loop-form.tray) (g.T.Tray.state c.read_values.new.tray) xs ys
    c.loop-form.invariant.takes few c.in_ok-read_values.ensures.answer
    )

pub returns-in_err-read_values-clause-answer : goal.returns-in_err-read_values-clause-answer
returns-in_err-read_values-clause-answer g c =
    let p = err_from_is_err_and c.from_residual.result c.from_residual.ensures.1 in
    rw (p.1, p.2) (
    let xs = c.loop-form.values.items in
    let ys = c.read_values.new.values in
    let few : length xs + length ys ≤ c.args.count = grind (arith, common_steps) in
    let same : c.len-done.result ≡ length xs = search rules in
    let at : c.args.start + c.len-done.result * c.sample_size-size.result ≡ c.args.start + length xs * sample_size c.args.maxval =
    ap (λ (n : ℕ). c.args.start + c.len-done.result * n) c.sample_size-size.ensures ∙ ap (λ (n : ℕ). c.args.start + n * sample_size c.args.maxval) same in
    values_refused c.args.form c.args.maxval c.args.count (length ys) c.args.start (c.args.start + c.len-done.result * c.sample_size-size.result) (g.T.Tray.state c.args.tray.now) (g.T.Tray.state c.loop-form.tray) (g.T.Tray.state c.read_values.new.tray) xs c.in_err-read_values.field-0.0
    c.loop-form.invariant.takes c.loop-form.invariant.fit few at c.in_err-read_values.ensures.answer
    )

pub returns-clause-answer : goal.returns-clause-answer
returns-clause-answer g c =
    let xs = c.loop-form.values.items in
    let all : length xs ≡ c.args.count = grind (arith, common_steps) in
    values_all c.args.form c.args.maxval c.args.count (g.T.Tray.state c.args.tray.now) (g.T.Tray.state c.loop-form.tray) xs c.loop-form.invariant.takes c.loop-form.invariant.fit all

pub slice_bounds-extend_from_slice-end : goal.slice_bounds-extend_from_slice-end
slice_bounds-extend_from_slice-end g c = grind (arith, common_steps)

pub loop-form-smaller : goal.loop-form-smaller
loop-form-smaller g c = grind (arith, common_steps)

pub read_values-requires-clause-start : goal.read_values-requires-clause-start
read_values-requires-clause-start g c = grind (arith, common_steps)

pub overflow_mul-done : goal.overflow_mul-done
overflow_mul-done g c = grind (arith, common_steps)

pub overflow_add-start : goal.overflow_add-start
overflow_add-start g c = grind (arith, common_steps)

pub returns-in_err-read_values-clause-uncut : goal.returns-in_err-read_values-clause-uncut
returns-in_err-read_values-clause-uncut g c = grind (arith, common_steps)

pub overflow_mul-want : goal.overflow_mul-want
overflow_mul-want g c = grind (arith, common_steps)

pub returns-in_err-extend_from_slice-clause-uncut : goal.returns-in_err-extend_from_slice-clause-uncut
returns-in_err-extend_from_slice-clause-uncut g c = grind (arith, common_steps)
