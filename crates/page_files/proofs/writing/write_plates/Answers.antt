-- write_plates: writes each plane as a plate into the file of its name, in order, as far as
-- `write_page` goes before the report.
use Rattle.std.proofs.lemmas.Grind.{common_steps}
use Rattle.std.proofs.Common.{map, List, subst, rules, ◌≡◌, ◌++◌, [], ◌∷◌, ◌∙◌, sym, ap, arith}
use Rattle.std.proofs.lemmas.List.{append_assoc, append-nil, length-append, length-map, nil_from_length}
use Rattle.std.specs.Vec.Iter.{into_iter_items}
use Rattle.outside.proofs.Steps.{kept_then, reported_on}
use Rattle.page_model.specs.declared.parts.Plane.{Plane}
use Rattle.page_files.specs.Files.{plate_files}
use Rattle.page_files.specs.Writing.{WritesAll}
use Rattle.page_files.proofs.WrittenPlates.{word_left, plate_wrote, plate_broke}
use Rattle.page_files.proofs.Steps.{wrote_none, no_plates, plates_written}
use Rattle.page_files.proofs.writing.write_plates.Goals as goal

pub loop-plane-init : goal.loop-plane-init
loop-plane-init g c = record {
  place = search rules;
  left = search rules;
  keeps = search rules;
  reported = search rules;
  wrote = wrote_none _ (g.R.Rack.state c.args.rack.now) (no_plates (map g.S.AsStr.text c.args.names.now));
}

pub loop-plane-preserved : goal.loop-plane-preserved
loop-plane-preserved g c =
    let before = g.R.Rack.state c.args.rack.now in
    let here = g.R.Rack.state c.loop-plane.rack in
    let after = g.R.Rack.state c.write_encoded.new.rack in
    let so_far = c.loop-plane.invariant in
    let whole : c.args.planes ≡ c.loop-plane.yielded ++ c.in-Some.plane ∷ into_iter_items c.next.new.self = search rules in
    record {
      place = omega (arith, so_far.place, length-append c.loop-plane.yielded (c.in-Some.plane ∷ []));
      left = whole ∙ sym (append_assoc c.loop-plane.yielded (c.in-Some.plane ∷ []) (into_iter_items c.next.new.self));
      keeps = kept_then before here after so_far.keeps c.in-Ok.ensures.keeps;
      reported = λ tells. c.in-Ok.ensures.reported (reported_on before here so_far.keeps tells) ∙ so_far.reported tells;
      wrote = plate_wrote g.S.AsStr.text c.args.names.now c.loop-plane.yielded c.in-Some.plane c.loop-plane.place c.index-names-place.result c.as_str.result.now before here after _ (c.as_str.ensures ∙ ap g.S.AsStr.text c.index-names-place.is) (word_left c.args.names.now c.args.planes c.loop-plane.yielded c.in-Some.plane _ c.requires.count whole) so_far.place so_far.keeps so_far.wrote c.in-Ok.ensures;
    }

pub returns-in-Err : goal.returns-in-Err
returns-in-Err g c =
    let so_far = c.loop-plane.invariant in
    let whole : c.args.planes ≡ c.loop-plane.yielded ++ c.in-Some.plane ∷ into_iter_items c.next.new.self = search rules in
    plate_broke g.S.AsStr.text c.args.names.now c.args.planes c.loop-plane.yielded c.in-Some.plane _ c.loop-plane.place c.index-names-place.result c.as_str.result.now (g.R.Rack.state c.args.rack.now) (g.R.Rack.state c.loop-plane.rack) (g.R.Rack.state c.write_encoded.new.rack) _ (c.as_str.ensures ∙ ap g.S.AsStr.text c.index-names-place.is) c.requires.count whole so_far.place so_far.keeps so_far.reported so_far.wrote c.in-Err.ensures

pub returns : goal.returns
returns g c =
    let outputs = map g.S.AsStr.text c.args.names.now in
    let before = g.R.Rack.state c.args.rack.now in
    let after = g.R.Rack.state c.loop-plane.rack in
    let so_far = c.loop-plane.invariant in
    let left = c.loop-plane.plane-iterator in
    let none : into_iter_items left ≡ [] = nil_from_length (into_iter_items left) (omega (arith, left.rest.ok, c.in-None.ensures.steps)) in
    let whole : c.loop-plane.yielded ≡ c.args.planes = sym (so_far.left ∙ ap (λ (ps : List Plane). c.loop-plane.yielded ++ ps) none ∙ append-nil c.loop-plane.yielded) in
    plates_written outputs c.args.planes before after tt (c.requires.count ∙ sym (length-map c.args.names.now g.S.AsStr.text)) so_far.keeps so_far.reported
    (subst (λ (ps : List Plane). WritesAll (plate_files outputs ps) before after) whole so_far.wrote)

pub loop-plane-preserved-derived : goal.loop-plane-preserved-derived
loop-plane-preserved-derived g c = grind (arith, common_steps)

pub offset_bounds-names-place : goal.offset_bounds-names-place
offset_bounds-names-place g c = grind (arith, common_steps)

pub overflow_add-place : goal.overflow_add-place
overflow_add-place g c = grind (arith, common_steps)

pub bounds-names-place : goal.bounds-names-place
bounds-names-place g c = grind (arith, common_steps)

pub overflow_cast-result : goal.overflow_cast-result
overflow_cast-result g c = grind (arith, common_steps)
