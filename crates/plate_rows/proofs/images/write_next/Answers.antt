-- write_next: writes the next tints of so many plates, turned into samples, each by the rack of its
-- number.
use Rattle.std.proofs.Common.{◌≡◌, ◌<◌, ◌+◌, ◌-◌, ◌*◌, ℕ, Ok, Err, length, map, get_or, take, drop, arith, subst}
use Rattle.pgm_plates.specs.Rows.{WritesRows}
use Rattle.std.proofs.lemmas.Grind.{common_steps}
use Rattle.plate_rows.specs.Images.{part_at}
use Rattle.plate_rows.proofs.WriteLemmas.{not_written, written}
use Rattle.plate_rows.proofs.images.write_next.Goals as goal

pub loop-place-preserved : goal.loop-place-preserved
loop-place-preserved g c =
    let state = g.R.Rack.state in
    let racks = c.loop-place.racks in
    let k = c.loop-place.place in
    let each = c.args.each in
    let old = c.index-racks-place.result in
    let stored : k < length racks = omega arith in
    let known : k < c.args.count = omega arith in
    let size : k * each + each - k * each ≡ each = omega arith in
    written state (map state c.args.racks.now) racks k c.args.count old c.write_rows.new.rack stored known c.args.header (part_at each c.args.tints.now) c.loop-place.invariant
    (subst (λ (n : ℕ). WritesRows c.args.header (take n (drop (k * each) c.args.tints.now)) (state (get_or racks k old)) (state c.write_rows.new.rack) (Ok c.in-Ok.field-0)) size c.in-Ok.ensures.rows)

pub returns-in-Err : goal.returns-in-Err
returns-in-Err g c =
    let state = g.R.Rack.state in
    let racks = c.loop-place.racks in
    let k = c.loop-place.place in
    let each = c.args.each in
    let old = c.index-racks-place.result in
    let stored : k < length racks = omega arith in
    let known : k < c.args.count = omega arith in
    let size : k * each + each - k * each ≡ each = omega arith in
    not_written state (map state c.args.racks.now) racks k c.args.count old c.write_rows.new.rack stored known c.args.header (part_at each c.args.tints.now) c.in-Err.field-0 c.loop-place.invariant
    (subst (λ (n : ℕ). WritesRows c.args.header (take n (drop (k * each) c.args.tints.now)) (state (get_or racks k old)) (state c.write_rows.new.rack) (Err c.in-Err.field-0)) size c.in-Err.ensures.rows)

pub write_rows-requires-clause-fits : goal.write_rows-requires-clause-fits
write_rows-requires-clause-fits g c = grind (arith, common_steps)

pub loop-place-init : goal.loop-place-init
loop-place-init g c = grind (arith, common_steps)

pub offset_bounds-tints-from : goal.offset_bounds-tints-from
offset_bounds-tints-from g c = grind (arith, common_steps)

pub overflow_add-part : goal.overflow_add-part
overflow_add-part g c = grind (arith, common_steps)

pub offset_bounds-racks-place : goal.offset_bounds-racks-place
offset_bounds-racks-place g c = grind (arith, common_steps)

pub overflow_mul-from : goal.overflow_mul-from
overflow_mul-from g c = grind (arith, common_steps)

pub returns : goal.returns
returns g c = grind (arith, common_steps)
