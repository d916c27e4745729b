-- first_above: the place of the first sample above the maxval among the whole samples that these
-- bytes spell.
use Rattle.std.proofs.lemmas.Grind.{common_steps}
use Rattle.std.proofs.Common.{◌≡◌, ◌<◌, ◌≤◌, ◌/◌, length, get_or, ℕ, sym, ap, ◌∙◌, arith}
use Rattle.pgm_plates.specs.Readers.{samples_spelled}
use Rattle.pgm_plates.proofs.Pieces.{fit_more, fit_end}
use Rattle.pgm_plates.proofs.Spelled.{all_spelled, spelled_size}
use Rattle.pgm_plates.proofs.samples.first_above.Goals as goal

pub loop-at-preserved : goal.loop-at-preserved
loop-at-preserved c =
    let bytes = c.args.bytes.now in
    let all = samples_spelled c.args.maxval bytes in
    let size : length all ≡ length bytes / c.sample_size.result = spelled_size c.args.maxval bytes ∙ ap (λ (n : ℕ). length bytes / n) (sym c.sample_size.ensures) in
    let within : c.loop-at.at < length all = omega (arith, size) in
    let le : get_or all c.loop-at.at 0 ≤ c.args.maxval = omega (arith, c.sample_at.ensures) in
    fit_more c.args.maxval all c.loop-at.at within c.loop-at.invariant le

pub returns-clause-fit : goal.returns-clause-fit
returns-clause-fit c =
    let bytes = c.args.bytes.now in
    let all = samples_spelled c.args.maxval bytes in
    let size : length all ≡ length bytes / c.sample_size.result = spelled_size c.args.maxval bytes ∙ ap (λ (n : ℕ). length bytes / n) (sym c.sample_size.ensures) in
    let whole : length all ≤ c.loop-at.at = omega (arith, size) in
    fit_end c.args.maxval all c.loop-at.at whole c.loop-at.invariant

pub returns-then-are_fit-clause-decoded : goal.returns-then-are_fit-clause-decoded
returns-then-are_fit-clause-decoded c = all_spelled c.args.maxval c.args.bytes.now c.are_bytes.ensures

pub returns-then-sample_at-maxval-clause-decoded : goal.returns-then-sample_at-maxval-clause-decoded
returns-then-sample_at-maxval-clause-decoded c = all_spelled c.args.maxval c.args.bytes.now c.are_bytes.ensures

pub returns-clause-decoded : goal.returns-clause-decoded
returns-clause-decoded c = all_spelled c.args.maxval c.args.bytes.now c.are_bytes.ensures

pub returns-then-sample_at-maxval-clause-above : goal.returns-then-sample_at-maxval-clause-above
returns-then-sample_at-maxval-clause-above c = grind (arith, common_steps)
