-- add_window: adds what is counted in a window of which the core begins at that column.
use Rattle.std.proofs.Common.{ℕ, ◌+◌, subst}
use Rattle.sheet_engine.proofs.WorkLemmas.{added, can_add}
use Rattle.sheet_engine.specs.Growth.{AddsArea}
use Rattle.sheet_engine.proofs.workspace.add_window.Goals as goal

pub add_sheet_counts-requires : goal.add_sheet_counts-requires
add_sheet_counts-requires c =
    let w = c.args.window.now in
    can_add c.args.sheet.now (w.column.from + w.column.skip) c.args.at w.column.core c.args.row.now.core c.args.counts.now w.counts c.requires.workspace c.requires.window.counts

pub returns : goal.returns
returns c =
    let w = c.args.window.now in
    subst (λ (n : ℕ). AddsArea c.args.sheet.now n c.args.at w.column.core c.args.row.now.core c.args.counts.now c.add_sheet_counts.new.counts) c.requires.left
    (added c.args.sheet.now (w.column.from + w.column.skip) c.args.at w.column.core c.args.row.now.core c.args.counts.now w.counts c.add_sheet_counts.new.counts c.requires.workspace c.requires.window.counts c.add_sheet_counts.ensures)
