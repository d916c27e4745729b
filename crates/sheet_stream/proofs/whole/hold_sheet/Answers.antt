-- hold_sheet: reads the plates of a sheet that was judged once more, each by the tray of its
-- number, with all their rows into the room that is made for them, which is the sheet then.
use Rattle.std.proofs.lemmas.Result.{err_from_is_err_and}
use Rattle.std.proofs.lemmas.Grind.{common_steps}
use Rattle.std.proofs.Common.{◌≡◌, ℕ, ◌≤◌, length, map, sym, ◌∙◌, arith}
use Rattle.std.specs.Prelude.{replicate}
use Rattle.std.proofs.lemmas.List.{length-map}
use Rattle.sheet_stream.proofs.SecondLemmas.{are_begun, have_headers, not_begun_again, sixteen}
use Rattle.sheet_stream.proofs.whole.hold_sheet.Goals as goal

pub hold_begun-requires-clause-headers : goal.hold_begun-requires-clause-headers
hold_begun-requires-clause-headers g c =
    let inputs = map g.S.AsStr.text c.args.inputs.now in
    let n : ℕ = length c.args.inputs.now in
    let n_is : n ≡ length inputs = sym (length-map c.args.inputs.now g.S.AsStr.text) in
    let header = c.args.header in
    let few : n ≤ 16 = (let a = c.requires.inputs in let b = c.requires.outline.parts.few_plates in omega (arith, a, b)) in
    let start = map g.T.Tray.state c.args.trays.now in
    let long = c.begin_plates.auto.plates in
    have_headers inputs c.args.outline.now header (replicate 16 header) c.begin_plates.new.plates start (map g.T.Tray.state c.begin_plates.new.trays) c.requires.header
    (λ k l. sixteen header k (omega (arith, l, few, n_is))) (sym n_is ∙ c.requires.inputs) n n_is (omega (arith, few, n_is, long)) c.in_ok-begin_plates.ensures

pub hold_begun-requires-clause-read : goal.hold_begun-requires-clause-read
hold_begun-requires-clause-read g c =
    let inputs = map g.S.AsStr.text c.args.inputs.now in
    let n : ℕ = length c.args.inputs.now in
    let n_is : n ≡ length inputs = sym (length-map c.args.inputs.now g.S.AsStr.text) in
    let header = c.args.header in
    let few : n ≤ 16 = (let a = c.requires.inputs in let b = c.requires.outline.parts.few_plates in omega (arith, a, b)) in
    let start = map g.T.Tray.state c.args.trays.now in
    let long = c.begin_plates.auto.plates in
    record {
      inputs = inputs;
      start = start;
      read = are_begun inputs c.args.outline.now header (replicate 16 header) c.begin_plates.new.plates start (map g.T.Tray.state c.begin_plates.new.trays) c.requires.header
          (λ k l. sixteen header k (omega (arith, l, few, n_is))) (sym n_is ∙ c.requires.inputs) n n_is (omega (arith, few, n_is, long)) c.in_ok-begin_plates.ensures;
    }

pub returns : goal.returns
returns g c =
    let inputs = map g.S.AsStr.text c.args.inputs.now in
    let n : ℕ = length c.args.inputs.now in
    let n_is : n ≡ length inputs = sym (length-map c.args.inputs.now g.S.AsStr.text) in
    let header = c.args.header in
    let few : n ≤ 16 = (let a = c.requires.inputs in let b = c.requires.outline.parts.few_plates in omega (arith, a, b)) in
    let start = map g.T.Tray.state c.args.trays.now in
    let long = c.begin_plates.auto.plates in
    c.hold_begun.ensures inputs start (are_begun inputs c.args.outline.now header (replicate 16 header) c.begin_plates.new.plates start (map g.T.Tray.state c.begin_plates.new.trays) c.requires.header
    (λ k l. sixteen header k (omega (arith, l, few, n_is))) (sym n_is ∙ c.requires.inputs) n n_is (omega (arith, few, n_is, long)) c.in_ok-begin_plates.ensures)

pub returns-in_err-begin_plates : goal.returns-in_err-begin_plates
returns-in_err-begin_plates g c =
    let p = err_from_is_err_and c.from_residual.result c.from_residual.ensures.1 in
    rw (p.1, p.2) (
    let inputs = map g.S.AsStr.text c.args.inputs.now in
    let n : ℕ = length c.args.inputs.now in
    let n_is : n ≡ length inputs = sym (length-map c.args.inputs.now g.S.AsStr.text) in
    let header = c.args.header in
    let few : n ≤ 16 = (let a = c.requires.inputs in let b = c.requires.outline.parts.few_plates in omega (arith, a, b)) in
    let start = map g.T.Tray.state c.args.trays.now in
    not_begun_again inputs c.args.outline.now header (replicate 16 header) c.begin_plates.new.plates start (map g.T.Tray.state c.begin_plates.new.trays) c.requires.header
    (λ k l. sixteen header k (omega (arith, l, few, n_is))) (sym n_is ∙ c.requires.inputs) n n_is c.in_err-begin_plates.field-0.0 c.in_err-begin_plates.ensures
    )

pub hold_begun-requires-clause-trays : goal.hold_begun-requires-clause-trays
hold_begun-requires-clause-trays g c = grind (arith, common_steps)

pub slice_bounds-hold_begun-end : goal.slice_bounds-hold_begun-end
slice_bounds-hold_begun-end g c = grind (arith, common_steps)
