-- write_waiting: writes the rows of the core of a strip that waits for it, each plate by the rack
-- of its number.
use Rattle.std.proofs.lemmas.Grind.{common_steps}
use Rattle.std.proofs.Common.{◌≤◌, ◌*◌, ◌∙◌, length, map, sym, ap, subst, arith}
use Rattle.page_model.specs.declared.parts.PageParts.{PageParts}
use Rattle.page_model.specs.Page.{maxval, plates, width}
use Rattle.sheet_stream.specs.Waiting.{WritesRow}
use Rattle.sheet_stream.specs.Cores.{AreOpen, IsCutStrip}
use Rattle.sheet_stream.specs.OnSheet.{strip_cut}
use Rattle.sheet_geometry.specs.WindowSheets.{IsCuttable}
use Rattle.sheet_stream.proofs.beside.write_waiting.Goals as goal

pub of-sheet-requires : goal.of-sheet-requires
of-sheet-requires g c = subst IsCuttable (sym c.replace.ensures.value) c.requires.waiting.cuttable

pub write_row-result-requires-clause-racks : goal.write_row-result-requires-clause-racks
write_row-result-requires-clause-racks g c =
    let same = ap plates (c.of-sheet.ensures ∙ c.replace.ensures.value) in
    let enough = c.requires.racks in
    omega (arith, same, enough)

pub write_row-result-requires-clause-open : goal.write_row-result-requires-clause-open
write_row-result-requires-clause-open g c =
    subst (λ (s : PageParts). AreOpen c.args.plan.now.header (plates s) (map g.R.Rack.state c.args.racks.now)) (sym (c.of-sheet.ensures ∙ c.replace.ensures.value)) c.requires.opened

pub write_row-result-requires-clause-cut : goal.write_row-result-requires-clause-cut
write_row-result-requires-clause-cut g c =
    let plan = c.args.plan.now in
    subst (λ (s : PageParts). IsCutStrip s (strip_cut plan.across plan.down c.args.row.now) c.args.core.now.windows) (sym (c.of-sheet.ensures ∙ c.replace.ensures.value)) c.requires.waiting.cut

pub write_row-result-requires-clause-line : goal.write_row-result-requires-clause-line
write_row-result-requires-clause-line g c =
    let core = c.args.core.now in
    subst (λ (s : PageParts). plates s * width s ≤ length core.line.items) (sym (c.of-sheet.ensures ∙ c.replace.ensures.value)) c.requires.waiting.line

pub write_row-result-requires-clause-bytes : goal.write_row-result-requires-clause-bytes
write_row-result-requires-clause-bytes g c = c.requires.waiting.bytes

pub write_row-result-requires-clause-maxval : goal.write_row-result-requires-clause-maxval
write_row-result-requires-clause-maxval g c = c.requires.waiting.deep ∙ ap maxval (sym (c.of-sheet.ensures ∙ c.replace.ensures.value))

pub returns-clause-written : goal.returns-clause-written
returns-clause-written g c =
    subst (λ (s : PageParts). WritesRow c.args.plan.now c.args.row.now s (map g.R.Rack.state c.args.racks.now) (map g.R.Rack.state c.write_row-result.new.racks) c.write_row-result.result) (c.of-sheet.ensures ∙ c.replace.ensures.value) c.write_row-result.ensures.written

pub returns-clause-bytes : goal.returns-clause-bytes
returns-clause-bytes g c = grind (arith, common_steps)

pub returns-clause-line : goal.returns-clause-line
returns-clause-line g c = grind (arith, common_steps)
