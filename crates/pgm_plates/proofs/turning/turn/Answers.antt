-- turn: turns samples into tints, or tints into samples, where they stand.
use Rattle.std.proofs.Common.{◌-◌, ◌<◌, ℕ, length, arith}
use Rattle.std.specs.Prelude.{slice_index_or}
use Rattle.std.proofs.lemmas.List.{get_or_default}
use Rattle.std.proofs.lemmas.List.Edits.{map_over_more}
use Rattle.pgm_plates.proofs.turning.turn.Goals as goal

pub loop-at-preserved : goal.loop-at-preserved
loop-at-preserved c =
    let values = c.loop-at.values in
    let at = c.loop-at.at in
    let value = slice_index_or values at 0 in
    let within : at < length c.args.values.now = omega arith in
    let stored : at < length values = omega arith in
    map_over_more (λ (v : ℕ). c.args.maxval - v) c.args.values.now values at value within c.loop-at.invariant (get_or_default values at 0 value stored)
