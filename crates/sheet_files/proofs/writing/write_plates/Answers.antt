-- write_plates: writes the planes, each by the rack of its number.
use Rattle.std.proofs.lemmas.Grind.{common_steps}
use Rattle.std.proofs.Common.{◌≡◌, ◌<◌, ℕ, List, Ok, Err, length, get_or, map, refl, arith, ap, ◌∙◌, subst}
use Rattle.std.proofs.lemmas.List.{length-map}
use Rattle.outside.specs.Writing.{WritesFile}
use Rattle.outside.specs.declared.tray.DeviceError.{DeviceError}
use Rattle.page_model.specs.declared.parts.Plane.{Plane}
use Rattle.page_files.specs.Format.{encoded}
use Rattle.plate_rows.specs.Racks.{rack_at}
use Rattle.sheet_files.specs.Racks.{WritesFirst, WritesPlates}
use Rattle.sheet_files.proofs.RackLemmas.{at_output, first_more, none_first}
use Rattle.sheet_files.proofs.writing.write_plates.Goals as goal

pub loop-place-init : goal.loop-place-init
loop-place-init g c = none_first (map g.S.AsStr.text c.args.names.now) c.args.planes.now (map g.R.Rack.state c.args.racks.now)

pub loop-place-preserved : goal.loop-place-preserved
loop-place-preserved g c =
    let names = map g.S.AsStr.text c.args.names.now in
    let planes = c.args.planes.now in
    let a = map g.R.Rack.state c.args.racks.now in
    let b = map g.R.Rack.state c.loop-place.racks in
    let d = map g.R.Rack.state c.write_at.new.racks in
    let k = c.loop-place.place in
    let within : k < length c.args.names.now = omega arith in
    let stored : k < length planes = omega arith in
    let named = c.as_str.ensures ∙ ap g.S.AsStr.text c.index-names-place.is in
    first_more names planes k a b d c.loop-place.invariant c.in-Ok.ensures.others
    (at_output g.S.AsStr.text c.args.names.now planes k c.index-names-place.result c.index-planes-place.result (rack_at b k) (rack_at d k) (Ok c.in-Ok.field-0) within stored
    (subst (λ (n : List ℕ). WritesFile {T = Unit {0}} {E = DeviceError} n (encoded (get_or planes k c.index-planes-place.result)) (rack_at b k) (rack_at d k) (Ok c.in-Ok.field-0)) named
    (subst (λ (p : Plane). WritesFile {T = Unit {0}} {E = DeviceError} c.as_str.result.now (encoded p) (rack_at b k) (rack_at d k) (Ok c.in-Ok.field-0)) c.index-planes-place.is c.in-Ok.ensures.here)))

pub returns-in-Err : goal.returns-in-Err
returns-in-Err g c =
    let names = map g.S.AsStr.text c.args.names.now in
    let planes = c.args.planes.now in
    let b = map g.R.Rack.state c.loop-place.racks in
    let d = map g.R.Rack.state c.write_at.new.racks in
    let k = c.loop-place.place in
    let within : k < length c.args.names.now = omega arith in
    let stored : k < length planes = omega arith in
    let known : k < length names = omega (arith, length-map c.args.names.now g.S.AsStr.text) in
    let named = c.as_str.ensures ∙ ap g.S.AsStr.text c.index-names-place.is in
    WritesPlates.broke k b c.in-Err.field-0 refl known c.loop-place.invariant
    (at_output g.S.AsStr.text c.args.names.now planes k c.index-names-place.result c.index-planes-place.result (rack_at b k) (rack_at d k) (Err c.in-Err.field-0) within stored
    (subst (λ (n : List ℕ). WritesFile {T = Unit {0}} {E = DeviceError} n (encoded (get_or planes k c.index-planes-place.result)) (rack_at b k) (rack_at d k) (Err c.in-Err.field-0)) named
    (subst (λ (p : Plane). WritesFile {T = Unit {0}} {E = DeviceError} c.as_str.result.now (encoded p) (rack_at b k) (rack_at d k) (Err c.in-Err.field-0)) c.index-planes-place.is c.in-Err.ensures.here)))
    c.in-Err.ensures.others

pub returns : goal.returns
returns g c =
    let same : c.loop-place.place ≡ length (map g.S.AsStr.text c.args.names.now) = omega (arith, length-map c.args.names.now g.S.AsStr.text) in
    WritesPlates.wrote refl (subst (λ n. WritesFirst (map g.S.AsStr.text c.args.names.now) c.args.planes.now n (map g.R.Rack.state c.args.racks.now) (map g.R.Rack.state c.loop-place.racks)) same c.loop-place.invariant)

pub write_at-requires-clause-fits : goal.write_at-requires-clause-fits
write_at-requires-clause-fits g c = grind (arith, common_steps)

pub write_at-requires-clause-maxval : goal.write_at-requires-clause-maxval
write_at-requires-clause-maxval g c = grind (arith, common_steps)
