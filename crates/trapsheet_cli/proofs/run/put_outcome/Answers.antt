-- put_outcome: writes the files of a sheet that was trapped.
use Rattle.std.proofs.Common.{◌≤◌, ℕ, List, Bor, Global, length, map, ap, sym, ◌∙◌, subst, string_bytes, arith}
use Rattle.std.specs.List.{All}
use Rattle.std.proofs.lemmas.List.{length-map}
use Rattle.page_model.specs.declared.parts.Plane.{Plane}
use Rattle.page_model.specs.Limits.{most_maxval}
use Rattle.plain_words.specs.Parts.{PlateNames}
use Rattle.trapsheet_cli.specs.Stored.{order_in}
use Rattle.sheet_files.specs.Racks.{WritesSheet, targets}
use Rattle.trapsheet_cli.specs.Files.{targets_of}
use Rattle.trapsheet_cli.proofs.EndLemmas.{puts_out}
use Rattle.trapsheet_cli.proofs.NameLemmas.{files_count}
use Rattle.trapsheet_cli.proofs.run.put_outcome.Goals as goal

pub write_sheet-requires-clause-some : goal.write_sheet-requires-clause-some
write_sheet-requires-clause-some g c =
    let words = map (string_bytes {Z = Global}) c.args.order.now.plates.now in
    let named = ap (λ (fs : List (Bor (List ℕ))). map (λ (f : Bor (List ℕ)). f.now) fs) c.as_slice.ensures.value ∙ c.in-Ok.ensures in
    let files = files_count (λ (p : PlateNames). p.output) c.as_slice.result.now words named ∙ length-map c.args.order.now.plates.now (string_bytes {Z = Global}) in
    omega (arith, files, c.requires.within.some)

pub write_sheet-requires-clause-few : goal.write_sheet-requires-clause-few
write_sheet-requires-clause-few g c =
    let words = map (string_bytes {Z = Global}) c.args.order.now.plates.now in
    let named = ap (λ (fs : List (Bor (List ℕ))). map (λ (f : Bor (List ℕ)). f.now) fs) c.as_slice.ensures.value ∙ c.in-Ok.ensures in
    let files = files_count (λ (p : PlateNames). p.output) c.as_slice.result.now words named ∙ length-map c.args.order.now.plates.now (string_bytes {Z = Global}) in
    omega (arith, files, c.requires.within.few)

pub write_sheet-requires-clause-racks : goal.write_sheet-requires-clause-racks
write_sheet-requires-clause-racks g c =
    let words = map (string_bytes {Z = Global}) c.args.order.now.plates.now in
    let named = ap (λ (fs : List (Bor (List ℕ))). map (λ (f : Bor (List ℕ)). f.now) fs) c.as_slice.ensures.value ∙ c.in-Ok.ensures in
    let files = files_count (λ (p : PlateNames). p.output) c.as_slice.result.now words named ∙ length-map c.args.order.now.plates.now (string_bytes {Z = Global}) in
    omega (arith, files, c.requires.within.few, c.requires.racks)

pub write_sheet-requires-clause-count : goal.write_sheet-requires-clause-count
write_sheet-requires-clause-count g c =
    let words = map (string_bytes {Z = Global}) c.args.order.now.plates.now in
    let named = ap (λ (fs : List (Bor (List ℕ))). map (λ (f : Bor (List ℕ)). f.now) fs) c.as_slice.ensures.value ∙ c.in-Ok.ensures in
    let files = files_count (λ (p : PlateNames). p.output) c.as_slice.result.now words named ∙ length-map c.args.order.now.plates.now (string_bytes {Z = Global}) in
    ap (λ (ps : List Plane). length ps) c.as_slice-2.ensures ∙ c.requires.count ∙ sym files

pub write_sheet-requires-clause-maxvals : goal.write_sheet-requires-clause-maxvals
write_sheet-requires-clause-maxvals g c = subst (λ (ps : List Plane). All (λ (plane : Plane). plane.maxval ≤ most_maxval) ps) (sym c.as_slice-2.ensures) c.requires.can.maxvals

pub write_sheet-requires-clause-fits : goal.write_sheet-requires-clause-fits
write_sheet-requires-clause-fits g c = subst (λ (ps : List Plane). All (λ (plane : Plane). All (λ (t : ℕ). t ≤ plane.maxval) plane.tints) ps) (sym c.as_slice-2.ensures) c.requires.can.fits

pub returns : goal.returns
returns g c sheet are is =
    let named = ap (λ (fs : List (Bor (List ℕ))). map (λ (f : Bor (List ℕ)). f.now) fs) c.as_slice.ensures.value ∙ c.in-Ok.ensures in
    let a = map g.R.Rack.state c.args.racks.now in
    let b = map g.R.Rack.state c.write_sheet.new.racks in
    puts_out (targets_of (order_in c.args.order.now)) sheet c.as_slice-2.result.now c.as_slice-3.result.now a b c.write_sheet.result (c.as_slice-2.ensures ∙ are) (c.as_slice-3.ensures ∙ is)
    (subst (λ (o : List (List ℕ)). WritesSheet (targets o c.args.order.now.report.now) c.as_slice-2.result.now c.as_slice-3.result.now a b c.write_sheet.result) named c.write_sheet.ensures)
