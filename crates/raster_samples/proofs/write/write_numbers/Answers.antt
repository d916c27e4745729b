-- write_numbers: samples of one byte and of two.
use Rattle.std.proofs.Common.{◌≡◌, ℕ, length, arith, subst}
use Rattle.raster_samples.specs.Runs.{IsRunApart}
use Rattle.raster_samples.proofs.RunLemmas.{beside_put}
use Rattle.raster_samples.proofs.write.write_numbers.Goals as goal

pub write_words-requires-clause-apart : goal.write_words-requires-clause-apart
write_words-requires-clause-apart c =
    subst (λ (s : ℕ). IsRunApart c.args.run s (length c.args.row.now)) c.if-sample_size-eq2.true c.requires.apart

pub write_bytes-requires-else-run-eq1-clause-apart : goal.write_bytes-requires-else-run-eq1-clause-apart
write_bytes-requires-else-run-eq1-clause-apart c =
    let one : c.args.raster.now.sample_size ≡ 1 = omega (arith, c.requires.size, c.if-sample_size-eq2.false) in
    subst (λ (s : ℕ). IsRunApart c.args.run s (length c.args.row.now)) one c.requires.apart

pub returns-then-run-eq0 : goal.returns-then-run-eq0
returns-then-run-eq0 c =
    let one : c.args.raster.now.sample_size ≡ 1 = omega (arith, c.requires.size, c.if-sample_size-eq2.false) in
    beside_put c.args.run.from c.args.run.forward c.args.run.back c.args.raster.now.sample_size c.args.raster.now.zero c.args.raster.now.maxval (length c.args.row.now) c.args.row.now c.args.bytes.now c.write_bytes.new.bytes one c.if-run-eq1.true c.if-run-eq0.true c.write_bytes.ensures
