-- begin_plates: begins the plates of these files once more, each by the tray of its number, and
-- gives in `plates` how they were begun.
use Rattle.std.proofs.lemmas.Result.{err_from_is_err_and}
use Rattle.std.proofs.Common.{◌<◌, ℕ, List, Ok, Err, length, map, get_or, arith, ap, sym, subst, ◌∙◌}
use Rattle.std.proofs.lemmas.List.{length-map}
use Rattle.std.proofs.lemmas.Grind.{common_steps}
use Rattle.plate_rows.specs.Rereading.{BeginsOne}
use Rattle.plate_rows.specs.Trays.{header_at}
use Rattle.plate_rows.proofs.JudgeLemmas.{named}
use Rattle.plate_rows.proofs.ReadLemmas.{begun_stops, one_begun}
use Rattle.plate_rows.proofs.rereading.begin_plates.Goals as goal

pub loop-place-preserved : goal.loop-place-preserved
loop-place-preserved g c =
    let state = g.T.Tray.state in
    let text = g.S.AsStr.text in
    let inputs = c.args.inputs.now in
    let headers = c.args.headers.now in
    let trays = c.loop-place.trays in
    let k = c.loop-place.place in
    let old = c.index-trays-place.result in
    let new = c.begin_one.new.tray in
    let within : k < length inputs = omega arith in
    let stored : k < length trays = omega arith in
    let shown : k < length c.loop-place.plates = omega arith in
    one_begun state (map text inputs) headers c.loop-place.plates (map state c.args.trays.now) trays k old new stored c.loop-place.invariant c.in_ok-plate.plate shown
    (subst (λ (n : List ℕ). BeginsOne n (header_at headers k) k (state (get_or trays k old)) (state new) (Ok c.in_ok-plate.plate)) (c.as_str.ensures ∙ ap text c.index-inputs-place.is ∙ sym (named text inputs k c.index-inputs-place.result within)) c.in_ok-plate.ensures)

pub returns-in_err-plate : goal.returns-in_err-plate
returns-in_err-plate g c =
    let p = err_from_is_err_and c.from_residual.result c.from_residual.ensures.1 in
    rw (p.1, p.2) (
    let state = g.T.Tray.state in
    let text = g.S.AsStr.text in
    let inputs = c.args.inputs.now in
    let headers = c.args.headers.now in
    let trays = c.loop-place.trays in
    let k = c.loop-place.place in
    let old = c.index-trays-place.result in
    let new = c.begin_one.new.tray in
    let within : k < length inputs = omega arith in
    let stored : k < length trays = omega arith in
    let known : k < length (map text inputs) = omega (arith, length-map inputs text) in
    begun_stops state (map text inputs) headers c.loop-place.plates (map state c.args.trays.now) trays k old new stored c.loop-place.invariant c.in_err-plate.field-0.0 known
    (subst (λ (n : List ℕ). BeginsOne n (header_at headers k) k (state (get_or trays k old)) (state new) (Err c.in_err-plate.field-0.0)) (c.as_str.ensures ∙ ap text c.index-inputs-place.is ∙ sym (named text inputs k c.index-inputs-place.result within)) c.in_err-plate.ensures)
    )

pub returns : goal.returns
returns g c = grind (arith, common_steps)

pub loop-place-init : goal.loop-place-init
loop-place-init g c = grind (arith, common_steps)

pub bounds-plates-place : goal.bounds-plates-place
bounds-plates-place g c = grind (arith, common_steps)
