-- stream_sheet: reads the plates of a sheet that was judged once more, each by the tray of its
-- number, and traps it strip by strip; what comes of each plate is written into the file of its
-- name by the rack of its number.
use Rattle.std.proofs.Common.{◌≡◌, ℕ, ◌≤◌, length, map, inl, refl, sym, ◌∙◌, arith}
use Rattle.std.specs.Prelude.{replicate}
use Rattle.std.proofs.lemmas.List.{length-map}
use Rattle.std.proofs.lemmas.Grind.{common_steps}
use Rattle.sheet_stream.specs.Second.{course_of}
use Rattle.sheet_stream.proofs.SecondLemmas.{are_begun, have_headers, not_begun_again, sixteen, streams_from}
use Rattle.sheet_stream.proofs.sheet.stream_sheet.Goals as goal

pub write_sheet-requires-clause-headers : goal.write_sheet-requires-clause-headers
write_sheet-requires-clause-headers g c κs within =
    let inputs = map g.S.AsStr.text c.args.names.now.inputs.now in
    let n : ℕ = length c.args.names.now.inputs.now in
    let n_is : n ≡ length inputs = sym (length-map c.args.names.now.inputs.now g.S.AsStr.text) in
    let header = c.args.plan.now.header in
    let few : n ≤ 16 = (let a = c.requires.inputs in let b = c.requires.can.valid.parts.few_plates in omega (arith, a, b)) in
    let long = c.begin_plates.auto.plates in
    have_headers inputs c.args.outline.now header (replicate 16 header) c.begin_plates.new.plates (map g.T.Tray.state c.args.trays.now) (map g.T.Tray.state c.begin_plates.new.trays) c.requires.header
    (λ k l. sixteen header k (omega (arith, l, few, n_is))) (sym n_is ∙ c.requires.inputs) n n_is (omega (arith, few, n_is, long)) c.in-Ok.ensures

pub write_sheet-requires-clause-read : goal.write_sheet-requires-clause-read
write_sheet-requires-clause-read g c κs within =
    let inputs = map g.S.AsStr.text c.args.names.now.inputs.now in
    let n : ℕ = length c.args.names.now.inputs.now in
    let n_is : n ≡ length inputs = sym (length-map c.args.names.now.inputs.now g.S.AsStr.text) in
    let header = c.args.plan.now.header in
    let few : n ≤ 16 = (let a = c.requires.inputs in let b = c.requires.can.valid.parts.few_plates in omega (arith, a, b)) in
    let long = c.begin_plates.auto.plates in
    record {
      inputs = inputs;
      start = map g.T.Tray.state c.args.trays.now;
      read = are_begun inputs c.args.outline.now header (replicate 16 header) c.begin_plates.new.plates (map g.T.Tray.state c.args.trays.now) (map g.T.Tray.state c.begin_plates.new.trays) c.requires.header
          (λ k l. sixteen header k (omega (arith, l, few, n_is))) (sym n_is ∙ c.requires.inputs) n n_is (omega (arith, few, n_is, long)) c.in-Ok.ensures;
    }

pub returns-in-Ok : goal.returns-in-Ok
returns-in-Ok g c =
    let inputs = map g.S.AsStr.text c.args.names.now.inputs.now in
    let outputs = map g.S.AsStr.text c.args.names.now.outputs.now in
    let n : ℕ = length c.args.names.now.inputs.now in
    let n_is : n ≡ length inputs = sym (length-map c.args.names.now.inputs.now g.S.AsStr.text) in
    let header = c.args.plan.now.header in
    let few : n ≤ 16 = (let a = c.requires.inputs in let b = c.requires.can.valid.parts.few_plates in omega (arith, a, b)) in
    let long = c.begin_plates.auto.plates in
    let start = map g.T.Tray.state c.args.trays.now in
    let read = are_begun inputs c.args.outline.now header (replicate 16 header) c.begin_plates.new.plates start (map g.T.Tray.state c.begin_plates.new.trays) c.requires.header
    (λ k l. sixteen header k (omega (arith, l, few, n_is))) (sym n_is ∙ c.requires.inputs) n n_is (omega (arith, few, n_is, long)) c.in-Ok.ensures in
    streams_from (course_of inputs outputs start (map g.R.Rack.state c.args.racks.now)) c.args.outline.now header c.write_sheet.new.workspace.counts (map g.T.Tray.state c.write_sheet.new.trays) (map g.R.Rack.state c.write_sheet.new.racks) c.write_sheet.result
    (c.write_sheet.ensures inputs start read)

pub returns-in-Err : goal.returns-in-Err
returns-in-Err g c =
    let inputs = map g.S.AsStr.text c.args.names.now.inputs.now in
    let n : ℕ = length c.args.names.now.inputs.now in
    let n_is : n ≡ length inputs = sym (length-map c.args.names.now.inputs.now g.S.AsStr.text) in
    let header = c.args.plan.now.header in
    let few : n ≤ 16 = (let a = c.requires.inputs in let b = c.requires.can.valid.parts.few_plates in omega (arith, a, b)) in
    inl (
      not_begun_again inputs c.args.outline.now header (replicate 16 header) c.begin_plates.new.plates (map g.T.Tray.state c.args.trays.now) (map g.T.Tray.state c.begin_plates.new.trays) c.requires.header
          (λ k l. sixteen header k (omega (arith, l, few, n_is))) (sym n_is ∙ c.requires.inputs) n n_is c.in-Err.error c.in-Err.ensures,
      refl,
    )

pub write_sheet-requires-clause-outputs : goal.write_sheet-requires-clause-outputs
write_sheet-requires-clause-outputs g c = grind (arith, common_steps)

pub slice_bounds-begun-end : goal.slice_bounds-begun-end
slice_bounds-begun-end g c = grind (arith, common_steps)

pub write_sheet-requires-clause-racks : goal.write_sheet-requires-clause-racks
write_sheet-requires-clause-racks g c = grind (arith, common_steps)

pub write_sheet-requires-clause-trays : goal.write_sheet-requires-clause-trays
write_sheet-requires-clause-trays g c = grind (arith, common_steps)
