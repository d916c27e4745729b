-- What `judge_each` has to show.
use Rattle.std.proofs.Common.{◌<◌, ℕ, List, Ok, Err, length, map, get_or, arith, ap, sym, subst, ◌∙◌}
use Rattle.std.proofs.lemmas.List.{length-map}
use Rattle.std.proofs.lemmas.Grind.{common_steps}
use Rattle.plate_rows.specs.Judging.{JudgesPlate}
use Rattle.plate_rows.proofs.JudgeLemmas.{named, one_judged, one_refused}
use Rattle.plate_rows.proofs.judging.judge_each.Goals as goal

pub loop-place-preserved : goal.loop-place-preserved
loop-place-preserved g c =
    let state = g.T.Tray.state in
    let text = g.S.AsStr.text in
    let inputs = c.args.inputs.now in
    let trays = c.loop-place.trays in
    let k = c.loop-place.place in
    let old = c.index-trays-place.result in
    let new = c.judge_plate.new.tray in
    let within : k < length inputs = omega arith in
    let stored : k < length trays = omega arith in
    let shown : k < length c.loop-place.headers = omega arith in
    one_judged state (map text inputs) c.loop-place.headers (map state c.args.trays.now) trays k old new stored c.loop-place.invariant c.in-Ok.header shown
    (subst (λ (n : List ℕ). JudgesPlate n (state (get_or trays k old)) (state new) (Ok c.in-Ok.header)) (c.as_str.ensures ∙ ap text c.index-inputs-place.is ∙ sym (named text inputs k c.index-inputs-place.result within)) c.in-Ok.ensures.answer)

pub returns-in-Err : goal.returns-in-Err
returns-in-Err g c =
    let state = g.T.Tray.state in
    let text = g.S.AsStr.text in
    let inputs = c.args.inputs.now in
    let trays = c.loop-place.trays in
    let k = c.loop-place.place in
    let old = c.index-trays-place.result in
    let new = c.judge_plate.new.tray in
    let within : k < length inputs = omega arith in
    let stored : k < length trays = omega arith in
    let known : k < length (map text inputs) = omega (arith, length-map inputs text) in
    one_refused state (map text inputs) c.loop-place.headers (map state c.args.trays.now) trays k old new stored c.loop-place.invariant c.in-Err.common_error known c.in-Err.ensures.memory
    (subst (λ (n : List ℕ). JudgesPlate n (state (get_or trays k old)) (state new) (Err c.in-Err.common_error)) (c.as_str.ensures ∙ ap text c.index-inputs-place.is ∙ sym (named text inputs k c.index-inputs-place.result within)) c.in-Err.ensures.answer)

pub returns : goal.returns
returns g c = grind (arith, common_steps)

pub bounds-headers-place : goal.bounds-headers-place
bounds-headers-place g c = grind (arith, common_steps)

pub loop-place-init : goal.loop-place-init
loop-place-init g c = grind (arith, common_steps)
