-- add_windows: adds what is counted in the windows of a strip.
use Rattle.std.proofs.Common.{◌≡◌, ℕ, ◌+◌, drop, subst, arith}
use Rattle.std.specs.Prelude.{map}
use Rattle.page_model.specs.Page.{width}
use Rattle.std.proofs.lemmas.Grind.{common_steps}
use Rattle.sheet_engine.specs.declared.workspace.WindowWorkspace.{WindowWorkspace}
use Rattle.sheet_engine.proofs.Adding.{columns_add}
use Rattle.sheet_engine.proofs.WorkspaceLemmas.{next_window, window_at}
use Rattle.sheet_engine.proofs.Walking.{nothing_added, workspace_left, spans_order}
use Rattle.sheet_engine.specs.Growth.{AddsArea}
use Rattle.sheet_engine.proofs.workspace.add_windows.Goals as goal

pub loop-k-init : goal.loop-k-init
loop-k-init c = record { spans = c.requires.columns; counts = nothing_added c.args.sheet.now c.args.at c.args.row.now.core c.args.counts.now }

pub add_window-requires-clause-window : goal.add_window-requires-clause-window
add_window-requires-clause-window c = window_at c.args.sheet.now c.args.row.now c.args.at c.args.windows.now c.loop-k.k c.index-windows-k.result c.loop-k-test.true c.index-windows-k.is c.requires.windows

pub add_window-requires-clause-left : goal.add_window-requires-clause-left
add_window-requires-clause-left c = (next_window c.args.across.now c.args.windows.now c.loop-k.k c.loop-k.left (width c.args.sheet.now) c.index-windows-k.result c.loop-k-test.true c.index-windows-k.is c.loop-k.invariant.spans).0.begins

pub add_window-requires-clause-workspace : goal.add_window-requires-clause-workspace
add_window-requires-clause-workspace c =
    let w = c.index-windows-k.result in
    let next = next_window c.args.across.now c.args.windows.now c.loop-k.k c.loop-k.left (width c.args.sheet.now) w c.loop-k-test.true c.index-windows-k.is c.loop-k.invariant.spans in
    let inside = spans_order c.args.across.now (drop (c.loop-k.k + 1) (map (λ (w : WindowWorkspace). w.column) c.args.windows.now)) (c.loop-k.left + w.column.core) (width c.args.sheet.now) next.1 in
    workspace_left c.args.sheet.now c.args.at c.loop-k.left w.column.core (width c.args.sheet.now) c.args.row.now.core c.args.counts.now c.loop-k.counts c.requires.workspace c.loop-k.invariant.counts inside

pub overflow_add-left : goal.overflow_add-left
overflow_add-left c =
    let w = c.index-windows-k.result in
    let next = next_window c.args.across.now c.args.windows.now c.loop-k.k c.loop-k.left (width c.args.sheet.now) w c.loop-k-test.true c.index-windows-k.is c.loop-k.invariant.spans in
    let inside = spans_order c.args.across.now (drop (c.loop-k.k + 1) (map (λ (w : WindowWorkspace). w.column) c.args.windows.now)) (c.loop-k.left + w.column.core) (width c.args.sheet.now) next.1 in
    let narrow = c.width-valid.ensures.valid.narrow in
    omega (arith, inside, narrow)

pub loop-k-preserved : goal.loop-k-preserved
loop-k-preserved c =
    let sheet = c.args.sheet.now in
    let w = c.index-windows-k.result in
    let next = next_window c.args.across.now c.args.windows.now c.loop-k.k c.loop-k.left (width sheet) w c.loop-k-test.true c.index-windows-k.is c.loop-k.invariant.spans in
    let left : c.loop-k.left ≡ 0 + c.loop-k.left = omega arith in
    record {
      spans = next.1;
      counts = columns_add sheet 0 c.args.at c.loop-k.left w.column.core c.args.row.now.core c.args.counts.now c.loop-k.counts c.add_window.new.counts c.loop-k.invariant.counts
          (subst (λ (n : ℕ). AddsArea sheet n c.args.at w.column.core c.args.row.now.core c.loop-k.counts c.add_window.new.counts) left c.add_window.ensures);
    }

pub returns : goal.returns
returns c = grind (arith, common_steps)
