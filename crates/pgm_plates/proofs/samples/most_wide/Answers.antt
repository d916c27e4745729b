-- What `most_wide` has to show.
use Rattle.std.proofs.Common.{◌<◌, ◌≤◌, length, max, ℕ, ap, ◌∙◌, arith}
use Rattle.pgm_plates.specs.Readers.{wide_samples}
use Rattle.pgm_plates.proofs.Pieces.{most_more, fit_end}
use Rattle.pgm_plates.proofs.Spelled.{wide_size}
use Rattle.pgm_plates.proofs.samples.most_wide.Goals as goal

pub loop-at-preserved : goal.loop-at-preserved
loop-at-preserved c =
    let all = wide_samples c.args.bytes.now in
    let within : c.loop-at.at < length all = omega (arith, wide_size c.args.bytes.now) in
    most_more all c.loop-at.at c.loop-at.most c.max-most.result within (c.max-most.ensures ∙ ap (λ (n : ℕ). max c.loop-at.most n) c.wide_at.ensures) c.loop-at.invariant

pub returns : goal.returns
returns c =
    let all = wide_samples c.args.bytes.now in
    let whole : length all ≤ c.loop-at.at = omega (arith, wide_size c.args.bytes.now) in
    fit_end c.loop-at.most all c.loop-at.at whole c.loop-at.invariant
