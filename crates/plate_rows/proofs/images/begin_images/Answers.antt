-- begin_images: creates the files of these names, each by the rack of its number, and writes that
-- header on each of them.
use Rattle.std.proofs.Common.{◌<◌, ℕ, List, Ok, Err, length, map, get_or, arith, ap, sym, subst, ◌∙◌}
use Rattle.std.proofs.lemmas.List.{length-map}
use Rattle.pgm_plates.specs.Rows.{BeginsImage}
use Rattle.std.proofs.lemmas.Grind.{common_steps}
use Rattle.plate_rows.proofs.JudgeLemmas.{named}
use Rattle.plate_rows.proofs.WriteLemmas.{created, not_created}
use Rattle.plate_rows.proofs.images.begin_images.Goals as goal

pub loop-place-preserved : goal.loop-place-preserved
loop-place-preserved g c =
    let state = g.R.Rack.state in
    let text = g.S.AsStr.text in
    let outputs = c.args.outputs.now in
    let racks = c.loop-place.racks in
    let k = c.loop-place.place in
    let old = c.index-racks-place.result in
    let new = c.begin_image.new.rack in
    let within : k < length outputs = omega arith in
    let stored : k < length racks = omega arith in
    created state (map state c.args.racks.now) racks k (length outputs) old new stored within (map text outputs) c.args.header c.loop-place.invariant
    (subst (λ (n : List ℕ). BeginsImage n c.args.header (state (get_or racks k old)) (state new) (Ok c.in-Ok.field-0)) (c.as_str.ensures ∙ ap text c.index-outputs-place.is ∙ sym (named text outputs k c.index-outputs-place.result within)) c.in-Ok.ensures)

pub returns-in-Err : goal.returns-in-Err
returns-in-Err g c =
    let state = g.R.Rack.state in
    let text = g.S.AsStr.text in
    let outputs = c.args.outputs.now in
    let racks = c.loop-place.racks in
    let k = c.loop-place.place in
    let old = c.index-racks-place.result in
    let new = c.begin_image.new.rack in
    let within : k < length outputs = omega arith in
    let stored : k < length racks = omega arith in
    let known : k < length (map text outputs) = omega (arith, length-map outputs text) in
    not_created state (map state c.args.racks.now) racks k (length outputs) old new stored within (map text outputs) c.args.header c.in-Err.field-0 known c.loop-place.invariant
    (subst (λ (n : List ℕ). BeginsImage n c.args.header (state (get_or racks k old)) (state new) (Err c.in-Err.field-0)) (c.as_str.ensures ∙ ap text c.index-outputs-place.is ∙ sym (named text outputs k c.index-outputs-place.result within)) c.in-Err.ensures)

pub returns : goal.returns
returns g c = grind (arith, common_steps)

pub loop-place-init : goal.loop-place-init
loop-place-init g c = grind (arith, common_steps)
