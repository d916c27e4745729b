-- What `put_whole` has to show.
use Rattle.std.proofs.lemmas.Result.{err_from_is_err_and}
use Rattle.std.proofs.Common.{ℕ, List, Bor, map, sym, ◌∙◌}
use Rattle.trapsheet_cli.specs.Stored.{order_in}
use Rattle.trapsheet_cli.specs.Planned.{PutsWhole}
use Rattle.trapsheet_cli.specs.Files.{targets_of}
use Rattle.trapsheet_cli.proofs.StoredLemmas.{stored_in, stored_plates, stored_sheet, not_stored}
use Rattle.trapsheet_cli.proofs.run.put_whole.Goals as goal

pub put_out-requires-clause-can : goal.put_out-requires-clause-can
put_out-requires-clause-can g c κs alive =
    let inputs = map (λ (f : Bor (List ℕ)). f.now) c.args.inputs.now in
    let before = map g.T.Tray.state c.args.trays.now in
    let after = map g.T.Tray.state c.hold.new.trays in
    let outline = c.args.planned.now.outline in
    let known = stored_sheet inputs outline c.in_ok-parts.parts before after c.requires.valid c.requires.blank (stored_in inputs outline c.in_ok-parts.parts before after c.in_ok-parts.ensures) in
    c.requires.can.can c.in_ok-parts.parts known.valid known.same

pub put_out-requires-clause-sheet : goal.put_out-requires-clause-sheet
put_out-requires-clause-sheet g c κs alive =
    let inputs = map (λ (f : Bor (List ℕ)). f.now) c.args.inputs.now in
    let before = map g.T.Tray.state c.args.trays.now in
    let after = map g.T.Tray.state c.hold.new.trays in
    let outline = c.args.planned.now.outline in
    (stored_sheet inputs outline c.in_ok-parts.parts before after c.requires.valid c.requires.blank (stored_in inputs outline c.in_ok-parts.parts before after c.in_ok-parts.ensures)).valid

pub put_out-requires-clause-count : goal.put_out-requires-clause-count
put_out-requires-clause-count g c κs alive =
    let inputs = map (λ (f : Bor (List ℕ)). f.now) c.args.inputs.now in
    let before = map g.T.Tray.state c.args.trays.now in
    let after = map g.T.Tray.state c.hold.new.trays in
    let outline = c.args.planned.now.outline in
    stored_plates outline c.in_ok-parts.parts (stored_sheet inputs outline c.in_ok-parts.parts before after c.requires.valid c.requires.blank (stored_in inputs outline c.in_ok-parts.parts before after c.in_ok-parts.ensures)) ∙ sym c.requires.count

pub returns : goal.returns
returns g c =
    let inputs = map (λ (f : Bor (List ℕ)). f.now) c.args.inputs.now in
    PutsWhole.stored c.in_ok-parts.parts (stored_in inputs c.args.planned.now.outline c.in_ok-parts.parts (map g.T.Tray.state c.args.trays.now) (map g.T.Tray.state c.hold.new.trays) c.in_ok-parts.ensures) c.put_out.ensures

pub returns-in_err-parts : goal.returns-in_err-parts
returns-in_err-parts g c =
    let p = err_from_is_err_and c.from_residual.result c.from_residual.ensures.1 in
    rw (p.1, p.2) (
    let inputs = map (λ (f : Bor (List ℕ)). f.now) c.args.inputs.now in
    not_stored (targets_of (order_in c.args.order.now)) inputs c.args.planned.now.outline (map g.T.Tray.state c.args.trays.now) (map g.T.Tray.state c.hold.new.trays) (map g.R.Rack.state c.args.racks.now) c.in_err-parts.field-0.0 c.in_err-parts.ensures
    )
