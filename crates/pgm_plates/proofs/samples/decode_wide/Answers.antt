-- What `decode_wide` has to show.
use Rattle.std.proofs.Common.{◌<◌, ◌≤◌, length, arith, rules}
use Rattle.pgm_plates.specs.Readers.{wide_samples}
use Rattle.pgm_plates.proofs.Spelled.{set_same, take_same, wide_size}
use Rattle.pgm_plates.proofs.samples.decode_wide.Goals as goal

pub loop-at-preserved : goal.loop-at-preserved
loop-at-preserved c =
    let all = wide_samples c.args.bytes.now in
    let here : c.loop-at.at < length c.loop-at.samples = search rules in
    let there : c.loop-at.at < length all = omega (arith, wide_size c.args.bytes.now) in
    set_same c.loop-at.samples all c.loop-at.at c.wide_at.result here there c.loop-at.invariant c.wide_at.ensures

pub returns : goal.returns
returns c =
    let all = wide_samples c.args.bytes.now in
    let one : length c.loop-at.samples ≤ c.loop-at.at = search rules in
    let two : length all ≤ c.loop-at.at = omega (arith, wide_size c.args.bytes.now) in
    take_same c.loop-at.samples all c.loop-at.at one two c.loop-at.invariant
